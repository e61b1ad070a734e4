use Rattle.std.proofs.Common.{◌≡◌, Some, length, refl}
use Rattle.std.specs.List.{slice_get}
use Rattle.std.proofs.lemmas.Option.{slice_get_read}
use Rattle.samoa_model.specs.contracts.setup.KindPartialEq.TheImpl.{ghosts}
use Rattle.samoa_micro.proofs.SeenLists.{count_by-map-remove}
use Rattle.samoa_micro.proofs.stock.Stock.draw.Goals as goal

-- the one that was taken out counts no longer
pub returns-clause-counts : goal.returns-clause-counts
returns-clause-counts g c other =
    let items = c.self.inside.boxes.items in
    let inside = rw c.as_slice.ensures.value at c.in_ok-at.ensures.within in
    let taken = slice_get_read items (length items) c.in_ok-at.at c.remove.result refl inside c.remove.ensures.value in
    let found : slice_get c.as_slice.result.now c.in_ok-at.at ≡ Some c.remove.result = rw c.as_slice.ensures.value taken in
    let kind = c.in_ok-at.ensures.kind c.remove.result found in
    let step = count_by-map-remove (λ b. (g.B.Micro.seen b).kind) (λ k. ghosts.eq k other) items c.in_ok-at.at c.remove.result taken in
    rw (← c.self.view_is, c.remove.ensures.items, ← kind) step
