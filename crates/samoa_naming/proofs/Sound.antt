-- What the script of a draft that passes keeps to besides its ranges.
use Rattle.std.proofs.Common.{◌≡◌, ℕ, ◌+◌, ◌*◌, ◌≤◌, true, cond, List, [], ◌∷◌, length, get_or, map, codes, leb, ltb, None, refl, sym, ◌∙◌, subst, leb-true}
use Rattle.std.specs.List.{All, count_by, sum_by, fold}
use Rattle.std.proofs.lemmas.Bool.{ltb-true, ltb-false}
use Rattle.std.proofs.lemmas.List.{length-map}
use Rattle.std.proofs.lemmas.List.Elements.{All-map}
use Rattle.samoa_model.specs.declared.setup.Kind.{Kind}
use Rattle.samoa_model.specs.declared.setup.Kind.TheVariants.{Prog, Link, Fd, Rbcast, Cons, Abcast, Seqcast, Repl, Views}
use Rattle.samoa_model.specs.declared.setup.Instr.{Instr}
use Rattle.samoa_model.specs.declared.setup.Instr.TheVariants as instr
use Rattle.samoa_model.specs.contracts.setup.KindPartialEq.TheImpl.{ghosts}
use Rattle.samoa_model.specs.declared.script.CodeDef.{CodeDef}
use Rattle.samoa_model.specs.declared.script.MicroDef.{MicroDef}
use Rattle.samoa_model.specs.Range.{ports_needed, HasPosition, HasPositions, IsLossInRange, IsCrashInRange}
use Rattle.samoa_grammar.specs.declared.draft.MicroDraft.{MicroDraft}
use Rattle.samoa_grammar.specs.declared.draft.LossDraft.{LossDraft}
use Rattle.samoa_grammar.specs.declared.draft.Draft.{Draft}
use Rattle.samoa_grammar.specs.Meaning.{event_named, change_named, micro_meant, loss_meant, crash_meant, script_of}
use Rattle.samoa_grammar.specs.Passes.{is_instr_of, instr_fault, ports_fault, loss_total, totals_fault}
use Rattle.samoa_naming.specs.Groups.{handler_outside, micro_outside, kinds_over, kind_over}
use Rattle.samoa_model.specs.Valid.{HasFewOfEach}
use Rattle.samoa_naming.proofs.Groups.{kinds_by_kind}
use Rattle.samoa_naming.proofs.Passed.{along_all, parts_9, codes_inside, losses_inside, crashes_inside, kinds_few}
use Rattle.samoa_naming.proofs.Sizes.{when_passes, when_fails, node_below, loss_below}

-- ---- positions

instr_in : (m : MicroDraft) (i : Instr) → instr_fault m i ≡ None → is_instr_of (length m.ports) (length m.changes) i ≡ true
instr_in m i h = when_passes (is_instr_of (length m.ports) (length m.changes) i) _ h

position_in : (m : MicroDef) (i : Instr) → is_instr_of (length m.ports) (length m.changes) i ≡ true → HasPosition m i
position_in m (instr.Set d n) h = tt
position_in m (instr.Copy d s) h = tt
position_in m (instr.Add d s) h = tt
position_in m (instr.Sub d s) h = tt
position_in m (instr.Less s t j) h = tt
position_in m (instr.Call port k) h = ltb-true port (length m.ports) h
position_in m (instr.Later port k) h = ltb-true port (length m.ports) h
position_in m (instr.Send s port k) h = ltb-true port (length m.ports) h
position_in m (instr.Deliver k) h = tt
position_in m (instr.Change c k) h = ltb-true c (length m.changes) h
position_in m (instr.Done k) h = tt

code_in : (x : Draft) (m : MicroDraft) (h : CodeDef) → handler_outside m h ≡ None → All (HasPosition (micro_meant x m)) h.code
unfolding handler_outside micro_meant
code_in x m h inside k d below =
    let here = instr_in m (get_or h.code k d) (along_all (instr_fault m) h.code inside k d below) in
    position_in (micro_meant x m) (get_or h.code k d) (rw (length-map m.ports (event_named x), length-map m.changes (change_named x)) here)

codes_in : (x : Draft) (m : MicroDraft) → micro_outside m ≡ None → All (λ (code : CodeDef). All (HasPosition (micro_meant x m)) code.code) (micro_meant x m).handlers
unfolding micro_outside micro_meant
codes_in x m inside k d below = code_in x m (get_or m.handlers k d) (along_all (handler_outside m) m.handlers inside k d below)

pub positions_there : (x : Draft) → totals_fault x ≡ None → HasPositions (script_of x)
unfolding script_of
positions_there x totals =
    All-map (λ (m : MicroDef). All (λ (code : CodeDef). All (HasPosition m) code.code) m.handlers) (micro_meant x) x.micros (λ k d below. codes_in x (get_or x.micros k d) (codes_inside x totals k d below))

-- ---- ports

pub ports_in : (x : Draft) (m : MicroDraft) → ports_fault m ≡ None → ports_needed (micro_meant x m).kind ≤ length (micro_meant x m).ports
unfolding micro_meant
ports_in x m h =
    subst (λ n. ports_needed m.kind ≤ n) (sym (length-map m.ports (event_named x))) (leb-true (ports_needed m.kind) (length m.ports) (when_passes (leb (ports_needed m.kind) (length m.ports)) _ h))

-- ---- kinds

fold_seen : {X Y A : Type 0} (h : A → Y → A) (f : X → Y) (a : A) (xs : List X) → fold h a (map f xs) ≡ fold (λ b x. h b (f x)) a xs
fold_seen h f a [] = refl
fold_seen h f a (x ∷ xs) = fold_seen h f (h a (f x)) xs

sum_by-map : {X Y : Type 0} (g : Y → ℕ) (f : X → Y) (xs : List X) → sum_by g (map f xs) ≡ sum_by (λ x. g (f x)) xs
sum_by-map g f xs = fold_seen (λ n y. n + g y) f 0 xs

kind_below : (x : Draft) (name : List ℕ) (kind : Kind) → kind_over x name kind ≡ None → x.nodes * count_by (λ (m : MicroDraft). ghosts.eq m.kind kind) x.micros ≤ 32
unfolding kind_over
kind_below x name kind h =
    let total = x.nodes * count_by (λ (m : MicroDraft). ghosts.eq m.kind kind) x.micros in
    ltb-false 32 total (when_fails (ltb 32 total) _ h)

each_kind : (x : Draft) → totals_fault x ≡ None → (kind : Kind) → x.nodes * count_by (λ (m : MicroDraft). ghosts.eq m.kind kind) x.micros ≤ 32
unfolding kinds_over
each_kind x totals kind =
    let few : kinds_over x ≡ None = kinds_few x totals in
    let parts = parts_9 (kind_over x (codes "prog") Prog) (kind_over x (codes "link") Link) (kind_over x (codes "fd") Fd) (kind_over x (codes "rbcast") Rbcast) (kind_over x (codes "cons") Cons) (kind_over x (codes "abcast") Abcast) (kind_over x (codes "seqcast") Seqcast) (kind_over x (codes "repl") Repl) (kind_over x (codes "views") Views) (sym (kinds_by_kind x) ∙ few) in
    elim kind as (λ k. x.nodes * count_by (λ (m : MicroDraft). ghosts.eq m.kind k) x.micros ≤ 32) [ Prog ↦ kind_below x (codes "prog") Prog parts.0 | Link ↦ kind_below x (codes "link") Link parts.1 | Fd ↦ kind_below x (codes "fd") Fd parts.2 | Rbcast ↦ kind_below x (codes "rbcast") Rbcast parts.3 | Cons ↦ kind_below x (codes "cons") Cons parts.4 | Abcast ↦ kind_below x (codes "abcast") Abcast parts.5 | Seqcast ↦ kind_below x (codes "seqcast") Seqcast parts.6 | Repl ↦ kind_below x (codes "repl") Repl parts.7 | Views ↦ kind_below x (codes "views") Views parts.8 ]

pub few_of_each : (x : Draft) → totals_fault x ≡ None → HasFewOfEach (script_of x)
unfolding script_of micro_meant
few_of_each x totals kind =
    let same = sum_by-map (λ (m : MicroDef). cond (ghosts.eq m.kind kind) 1 0) (micro_meant x) x.micros in
    subst (λ n. x.nodes * n ≤ 32) (sym same) (each_kind x totals kind)

-- ---- losses and crashes

loss_in : (x : Draft) (l : LossDraft) → loss_total x.nodes l ≡ None → IsLossInRange (script_of x) (loss_meant l)
unfolding script_of
loss_in x l h = let parts = loss_below x.nodes l h in record { origin = parts.0; to = parts.1 }

pub losses_of : (x : Draft) → totals_fault x ≡ None → All (IsLossInRange (script_of x)) (script_of x).losses
unfolding script_of
losses_of x totals = All-map (IsLossInRange (script_of x)) loss_meant x.losses (λ k d below. loss_in x (get_or x.losses k d) (losses_inside x totals k d below))

pub crashes_of : (x : Draft) → totals_fault x ≡ None → All (IsCrashInRange (script_of x)) (script_of x).crashes
unfolding script_of
crashes_of x totals = All-map (IsCrashInRange (script_of x)) crash_meant x.crashes (λ k d below. node_below x.nodes (codes "node") (get_or x.crashes k d).node (crashes_inside x totals k d below))
