use Rattle.samoa_core.proofs.index.Index.link_next.Goals as goal

pub overflow_sub-last : goal.overflow_sub-last
overflow_sub-last c = (c.requires.last c.in-Some.last c.in-Some.is).0
