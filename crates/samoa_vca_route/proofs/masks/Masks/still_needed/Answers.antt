use Rattle.std.proofs.Common.{◌≡◌, ◌∙◌, sym, ap, subst, ℕ, List, ◌<◌, ◌↔◌, bit_or}
use Rattle.std.specs.Int.{bit_at}
use Rattle.samoa_model.specs.declared.ids.HandlerId.{HandlerId}
use Rattle.samoa_model.specs.Paths.{IsQuiet}
use Rattle.samoa_vca_route.specs.Routes.{edges_of, vertices_of}
use Rattle.samoa_vca_route.proofs.Masking.{need_together}
use Rattle.samoa_vca_route.proofs.masks.Masks.still_needed.Goals as goal

pub returns : goal.returns
returns g c =
    let active : List HandlerId = g.T.Standing.active_handlers c.args.standing.now in
    let waiting : List HandlerId = g.T.Standing.waiting_handlers c.args.standing.now in
    let vertices : c.as_slice-vertices.result.now ≡ vertices_of c.args.decl.now = c.as_slice-vertices.ensures ∙ sym (ap vertices_of c.in-Route.is) in
    let edges : c.as_slice-edges.result.now ≡ edges_of c.args.decl.now = c.as_slice-edges.ensures ∙ sym (ap edges_of c.in-Route.is) in
    subst (λ (vs : List HandlerId). (p : ℕ) → p < 32 → (bit_at (bit_or c.active_need.result c.waiting_need.result) p ≡ 0) ↔ IsQuiet vs (edges_of c.args.decl.now) p active waiting) vertices
    (subst (λ (es : List (ℕ × ℕ)). (p : ℕ) → p < 32 → (bit_at (bit_or c.active_need.result c.waiting_need.result) p ≡ 0) ↔ IsQuiet c.as_slice-vertices.result.now es p active waiting) edges
    (need_together c.as_slice-vertices.result.now c.as_slice-edges.result.now active waiting c.active_need.result c.waiting_need.result c.active_need.ensures c.waiting_need.ensures))
