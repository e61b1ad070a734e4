use Rattle.std.proofs.Common.{map, ap, ◌∙◌}
use Rattle.samoa_grammar.specs.declared.draft.MicroDraft.{MicroDraft}
use Rattle.samoa_grammar.specs.declared.draft.DeclDraft.{DeclDraft}
use Rattle.samoa_grammar.specs.declared.draft.EventDraft.{EventDraft}
use Rattle.samoa_grammar.specs.declared.draft.ChangeDraft.{ChangeDraft}
use Rattle.samoa_naming.specs.Groups.{own_names}
use Rattle.samoa_naming.proofs.directory.Directory.new.Goals as goal

pub invariant_of-result : goal.invariant_of-result
invariant_of-result c = (
  c.in_ok-micros.ensures ∙ ap (map (λ (m : MicroDraft). m.name)) c.as_slice.ensures,
  c.in_ok-handlers.ensures ∙ ap (map own_names) c.as_slice-2.ensures,
  c.in_ok-decls.ensures ∙ ap (map (λ (d : DeclDraft). d.name)) c.as_slice-3.ensures,
  c.in_ok-events.ensures ∙ ap (map (λ (e : EventDraft). e.name)) c.as_slice-4.ensures,
  c.in_ok-changes.ensures ∙ ap (map (λ (x : ChangeDraft). x.name)) c.as_slice-5.ensures,
)
