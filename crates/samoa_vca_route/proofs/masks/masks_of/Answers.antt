use Rattle.std.proofs.Common.{◌≡◌, ◌∙◌, sym, subst, ap, length, length-append}
use Rattle.samoa_model.specs.declared.ids.HandlerId.{HandlerId}
use Rattle.samoa_vca_route.specs.Masks.{AreMasksOf, IsMaskOf, handler_at}
use Rattle.samoa_vca_route.proofs.Masking.{one_listed}
use Rattle.samoa_vca_route.proofs.masks.masks_of.Goals as goal

pub loop-place-preserved : goal.loop-place-preserved
loop-place-preserved c =
    let so_far = c.loop-place.invariant in
    let at : c.listed.result ≡ handler_at (length c.loop-place.words.items) = c.listed.ensures ∙ ap handler_at (sym so_far.many) in
    record {
      many = rw (c.in_ok-push.ensures.items, length-append, so_far.many);
      exact = subst (AreMasksOf c.args.vertices.now c.args.edges.now) (sym c.in_ok-push.ensures.items)
          (one_listed c.args.vertices.now c.args.edges.now c.loop-place.words.items c.mask_from.result so_far.exact
          (subst (λ (h : HandlerId). IsMaskOf c.args.vertices.now c.args.edges.now h c.mask_from.result) at c.mask_from.ensures));
    }
