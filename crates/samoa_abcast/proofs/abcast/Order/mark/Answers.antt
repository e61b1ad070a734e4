use Rattle.samoa_abcast.proofs.Indexed.{rest_indexed}
use Rattle.samoa_abcast.proofs.abcast.Order.mark.Goals as goal

pub invariant_of-self-2 : goal.invariant_of-self-2
invariant_of-self-2 c =
    rw c.take_out.ensures
    (rest_indexed c.self.inside.pending.items c.self.inside.keys.keys c.remove.new.self.keys c.key_of-key.result c.self.invariant c.remove.ensures.updates.0)
