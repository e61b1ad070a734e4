use Rattle.std.proofs.Common.{◌≡◌, ℕ, Some, map, get_or, bytes_eq, sym, ap, ◌∙◌}
use Rattle.std.specs.Prelude.{option_map}
use Rattle.std.specs.List.{position}
use Rattle.samoa_model.specs.declared.ids.HandlerId.{HandlerId}
use Rattle.samoa_grammar.specs.declared.draft.MicroDraft.{MicroDraft}
use Rattle.samoa_grammar.specs.Names.{micro_part, handler_part}
use Rattle.samoa_grammar.specs.Meaning.{no_micro_draft}
use Rattle.samoa_naming.specs.Groups.{handler_place}
use Rattle.samoa_naming.proofs.Groups.{handler_found}
use Rattle.samoa_naming.proofs.handlers.handler_in.Goals as goal

pub returns : goal.returns
returns c =
    let micros = c.args.draft.now.micros in
    let name = c.args.name.now in
    let p = c.in_ok-micro.micro in
    let at : ℕ → HandlerId = λ h. record { micro = record { 0 = p }; index = h } in
    let first : c.parts.result.0.now ≡ micro_part name = c.parts.ensures.micro ∙ ap micro_part c.as_str.ensures.value in
    let second : c.parts.result.1.now ≡ handler_part name = c.parts.ensures.handler ∙ ap handler_part c.as_str.ensures.value in
    let here : position (bytes_eq (micro_part name)) (map (λ (m : MicroDraft). m.name) micros) ≡ Some p =
    ap (λ t. position (bytes_eq t) (map (λ (m : MicroDraft). m.name) micros)) (sym first) ∙ ap (position (bytes_eq c.parts.result.0.now)) (sym c.micros.ensures) ∙ sym c.in_ok-micro.ensures.value in
    c.handler_at.ensures ∙ ap (λ t. option_map at (handler_place (get_or micros p no_micro_draft) t)) second ∙ sym (handler_found micros name p here)
