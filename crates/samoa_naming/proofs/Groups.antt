-- The passes by their groups.
use Rattle.std.proofs.Common.{◌≡◌, ℕ, List, [], ◌∷◌, Option, Some, None, map, get_or, bytes_eq, codes, refl, ap}
use Rattle.std.specs.Prelude.{option_map, option_and_then}
use Rattle.std.specs.List.{position}
use Rattle.samoa_model.specs.declared.setup.Kind.TheVariants.{Prog, Link, Fd, Rbcast, Cons, Abcast, Seqcast, Repl, Views}
use Rattle.samoa_grammar.specs.declared.fault.WalkFault.{WalkFault}
use Rattle.samoa_grammar.specs.declared.draft.Draft.{Draft}
use Rattle.samoa_grammar.specs.declared.draft.MicroDraft.{MicroDraft}
use Rattle.samoa_grammar.specs.Names.{micro_part, handler_part}
use Rattle.samoa_grammar.specs.Meaning.{no_micro_draft, handler_in, handler_names}
use Rattle.samoa_grammar.specs.Walks.{◌then◌, first_along}
use Rattle.samoa_grammar.specs.Passes.{twice, twice_fault, unknown_fault, totals_fault}
use Rattle.samoa_naming.specs.Groups.{own_names, handler_place, handler_outside, micro_outside, micros_twice, handlers_twice, decls_twice, events_twice, changes_twice, bodies_twice, bound_twice, rebound_twice, tables_twice, micros_unknown, bodies_unknown, events_unknown, changes_unknown, causes_unknown, ports_missing, codes_outside, vertices_over, does_outside, losses_outside, crashes_outside, ticks_over, kinds_over, kind_over}

pub twice_by_groups : (x : Draft) → twice_fault x ≡ (micros_twice x then handlers_twice x then decls_twice x then events_twice x then changes_twice x then bodies_twice x then bound_twice x then rebound_twice x then tables_twice x)
unfolding twice_fault micros_twice handlers_twice decls_twice events_twice changes_twice bodies_twice bound_twice rebound_twice tables_twice
twice_by_groups x = refl

pub unknown_by_groups : (x : Draft) → unknown_fault x ≡ (micros_unknown x then bodies_unknown x then events_unknown x then changes_unknown x then causes_unknown x)
unfolding unknown_fault micros_unknown bodies_unknown events_unknown changes_unknown causes_unknown
unknown_by_groups x = refl

pub totals_by_groups : (x : Draft) → totals_fault x ≡ (ports_missing x then codes_outside x then vertices_over x then does_outside x then losses_outside x then crashes_outside x then ticks_over x then kinds_over x)
unfolding totals_fault handler_outside micro_outside ports_missing codes_outside vertices_over does_outside losses_outside crashes_outside ticks_over kinds_over
totals_by_groups x = refl

pub kinds_by_kind : (x : Draft) → kinds_over x ≡ (kind_over x (codes "prog") Prog then kind_over x (codes "link") Link then kind_over x (codes "fd") Fd then kind_over x (codes "rbcast") Rbcast then kind_over x (codes "cons") Cons then kind_over x (codes "abcast") Abcast then kind_over x (codes "seqcast") Seqcast then kind_over x (codes "repl") Repl then kind_over x (codes "views") Views)
unfolding kinds_over kind_over
kinds_by_kind x = refl

handler_by_parts : (micros : List MicroDraft) (name : List ℕ) (o : Option ℕ) → position (bytes_eq (micro_part name)) (map (λ (m : MicroDraft). m.name) micros) ≡ o
    → handler_in micros name ≡ option_and_then (λ p. option_map (λ h. record { micro = record { 0 = p }; index = h }) (handler_place (get_or micros p no_micro_draft) (handler_part name))) o
unfolding handler_place
handler_by_parts micros name o here =
    ap (option_and_then (λ p. option_map (λ h. record { micro = record { 0 = p }; index = h }) (position (bytes_eq (handler_part name)) (handler_names (get_or micros p no_micro_draft))))) here

pub handler_found : (micros : List MicroDraft) (name : List ℕ) (p : ℕ) → position (bytes_eq (micro_part name)) (map (λ (m : MicroDraft). m.name) micros) ≡ Some p
    → handler_in micros name ≡ option_map (λ h. record { micro = record { 0 = p }; index = h }) (handler_place (get_or micros p no_micro_draft) (handler_part name))
handler_found micros name p here = handler_by_parts micros name (Some p) here

pub handler_lost : (micros : List MicroDraft) (name : List ℕ) → position (bytes_eq (micro_part name)) (map (λ (m : MicroDraft). m.name) micros) ≡ None → handler_in micros name ≡ None
handler_lost micros name lost = handler_by_parts micros name None lost

pub ruleset handlers_by_parts = (handler_found, handler_lost)

-- ---- handlers that stand twice

along_map : {X Y : Type 0} (fault : Y → Option WalkFault) (f : X → Y) (xs : List X) → first_along (λ x. fault (f x)) xs ≡ first_along fault (map f xs)
along_map fault f [] = refl
along_map fault f (x ∷ xs) = ap (λ o. fault (f x) then o) (along_map fault f xs)

pub handlers_by_lists : (x : Draft) → handlers_twice x ≡ first_along twice (map own_names x.micros)
unfolding handlers_twice
handlers_by_lists x = along_map twice own_names x.micros
