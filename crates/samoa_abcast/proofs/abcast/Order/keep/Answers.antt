use Rattle.samoa_abcast.proofs.Indexed.{more_indexed}
use Rattle.samoa_abcast.proofs.abcast.Order.keep.Goals as goal

pub invariant_of-self-in_err-push : goal.invariant_of-self-in_err-push
invariant_of-self-in_err-push c =
    rw c.in_err-push.ensures.items
    (more_indexed c.self.inside.pending.items c.self.inside.keys.keys c.insert.new.self.keys c.key_of.result c.self.invariant c.in_ok-insert.ensures.updates.0)
