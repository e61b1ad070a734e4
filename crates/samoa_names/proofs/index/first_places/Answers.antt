use Rattle.std.proofs.Common.{bytes_eq, ap₂, ◌∙◌, arith}
use Rattle.samoa_names.specs.Names.{first_number}
use Rattle.samoa_names.proofs.Firsts.{one_more}
use Rattle.samoa_names.proofs.index.first_places.Goals as goal

pub loop-place-preserved : goal.loop-place-preserved
loop-place-preserved c = λ q.
    let place = c.loop-place.place in
    c.in_ok-add.ensures q
    ∙ ap₂ (λ o t. first_number o (bytes_eq q t) place) (c.loop-place.invariant q) c.as_str.ensures.value
    ∙ one_more c.args.names.now place c.index-names-place.result q (omega arith) c.index-names-place.is
