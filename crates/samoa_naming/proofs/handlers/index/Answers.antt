use Rattle.std.proofs.Common.{◌≡◌, ◌+◌, Some, None, length, map, bytes_eq, sym, ap, ◌∙◌}
use Rattle.std.specs.Prelude.{option_map}
use Rattle.std.specs.List.{position}
use Rattle.std.proofs.lemmas.List.{length-map}
use Rattle.samoa_model.specs.declared.script.CodeDef.{CodeDef}
use Rattle.samoa_model.specs.Handlers.{handlers_of_kind}
use Rattle.samoa_naming.specs.Groups.{handler_place}
use Rattle.samoa_names.proofs.Positions.{position_right}
use Rattle.samoa_naming.proofs.handlers.index.Goals as goal

pub returns-in_ok-place-in-None-clause-value : goal.returns-in_ok-place-in-None-clause-value
unfolding handler_place
returns-in_ok-place-in-None-clause-value c =
    let name = c.args.name.now in
    let handlers = c.args.micro.now.handlers in
    let own = c.in_ok-place-in-None.place in
    let none : position (bytes_eq name) (map (λ (h : CodeDef). h.name) handlers) ≡ None = cc in
    let there : position (bytes_eq name) (handlers_of_kind c.args.micro.now.kind) ≡ Some own = sym c.in_ok-place-in-None.ensures.value in
    let joined = position_right (bytes_eq name) (map (λ (h : CodeDef). h.name) handlers) (handlers_of_kind c.args.micro.now.kind) none in
    ap (λ n. Some (n + own)) c.len.ensures
    ∙ sym (joined ∙ ap (option_map (λ i. length (map (λ (h : CodeDef). h.name) handlers) + i)) there ∙ ap (λ n. Some (n + own)) (length-map handlers (λ (h : CodeDef). h.name)))
