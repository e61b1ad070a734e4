-- What a stock has left while slots are filled from it.
use Rattle.std.proofs.Common.{◌≡◌, ◌<◌, ◌≤◌, ◌+◌, ◌-◌, ◌*◌, ◌∷◌, [], ◌++◌, ◌∙◌, ℕ, List, Option, true, cond, ap, sym, refl, map, take, drop, get_or, length, append_assoc, arith}
use Rattle.std.specs.List.{count_by}
use Rattle.std.proofs.lemmas.List.{take_more, map-append}
use Rattle.std.proofs.lemmas.List.Sums.{sum_by_more, sum_by-drop_more}
use Rattle.samoa_model.specs.declared.setup.Kind.{Kind}
use Rattle.samoa_model.specs.declared.setup.Kind.TheVariants.{Prog, Link, Fd, Rbcast, Cons, Abcast, Seqcast, Repl, Views}
use Rattle.samoa_model.specs.declared.script.MicroDef.{MicroDef}
use Rattle.samoa_model.specs.declared.script.Script.{Script}
use Rattle.samoa_model.specs.contracts.setup.KindPartialEq.TheImpl.{ghosts}
use Rattle.samoa_serial.specs.Kinds.{Seen}
use Rattle.samoa_control.specs.Slots.{set_up_at}

-- a kind is itself
pub eq-self : (kind : Kind) → ghosts.eq kind kind ≡ true
eq-self Prog = refl
eq-self Link = refl
eq-self Fd = refl
eq-self Rbcast = refl
eq-self Cons = refl
eq-self Abcast = refl
eq-self Seqcast = refl
eq-self Repl = refl
eq-self Views = refl

abbrev pub kinds_in : List MicroDef → Kind → ℕ
kinds_in micros kind = count_by (λ (micro : MicroDef). ghosts.eq micro.kind kind) micros

kinds-take : (micros : List MicroDef) (kind : Kind) (i : ℕ) (d : MicroDef) → i < length micros
    → kinds_in (take (i + 1) micros) kind ≡ kinds_in (take i micros) kind + cond (ghosts.eq (get_or micros i d).kind kind) 1 0
kinds-take micros kind i d within = sum_by_more (λ (micro : MicroDef). cond (ghosts.eq micro.kind kind) 1 0) micros i d within

kinds-drop : (micros : List MicroDef) (kind : Kind) (i : ℕ) (d : MicroDef) → i < length micros
    → kinds_in (drop i micros) kind ≡ cond (ghosts.eq (get_or micros i d).kind kind) 1 0 + kinds_in (drop (i + 1) micros) kind
kinds-drop micros kind i d within = sum_by-drop_more (λ (micro : MicroDef). cond (ghosts.eq micro.kind kind) 1 0) micros i d within

-- there is one of the kind that is wanted next
pub covers_next : (micros : List MicroDef) (micro : MicroDef) (left i : ℕ) → i < length micros → micro ≡ get_or micros i micro
    → kinds_in (drop i micros) micro.kind ≤ left → 0 < left
covers_next micros micro left i within e covers =
    let kind = micro.kind in
    let one : ◌≡◌ {A = ℕ} (cond (ghosts.eq kind kind) 1 0) 1 = ap (λ b. cond b 1 0) (eq-self kind) in
    let same : ◌≡◌ {A = ℕ} (cond (ghosts.eq kind kind) 1 0) (cond (ghosts.eq (get_or micros i micro).kind kind) 1 0) =
    ap (λ (m : MicroDef). cond (ghosts.eq m.kind kind) 1 0) e in
    omega (arith, covers, kinds-drop micros kind i micro within, one, same)

-- what is left covers those that are left
pub covers_rest : (micros : List MicroDef) (micro : MicroDef) (kind : Kind) (old new i : ℕ) → i < length micros → micro ≡ get_or micros i micro
    → kinds_in (drop i micros) kind ≤ old → old ≡ new + cond (ghosts.eq micro.kind kind) 1 0 → kinds_in (drop (i + 1) micros) kind ≤ new
covers_rest micros micro kind old new i within e covers counts =
    let same : ◌≡◌ {A = ℕ} (cond (ghosts.eq micro.kind kind) 1 0) (cond (ghosts.eq (get_or micros i micro).kind kind) 1 0) =
    ap (λ (m : MicroDef). cond (ghosts.eq m.kind kind) 1 0) e in
    omega (arith, covers, counts, kinds-drop micros kind i micro within, same)

-- one more was drawn
pub counts_more : (micros : List MicroDef) (micro : MicroDef) (kind : Kind) (first old new i : ℕ) → i < length micros → micro ≡ get_or micros i micro
    → first ≡ old + kinds_in (take i micros) kind → old ≡ new + cond (ghosts.eq micro.kind kind) 1 0
    → first ≡ new + kinds_in (take (i + 1) micros) kind
counts_more micros micro kind first old new i within e so_far counts =
    let same : ◌≡◌ {A = ℕ} (cond (ghosts.eq micro.kind kind) 1 0) (cond (ghosts.eq (get_or micros i micro).kind kind) 1 0) =
    ap (λ (m : MicroDef). cond (ghosts.eq m.kind kind) 1 0) e in
    omega (arith, so_far, counts, kinds-take micros kind i micro within, same)

-- one slot more
pub filled_more : (script : Script) (node : ℕ) (first : List (Option Seen)) (micros : List MicroDef) (micro : MicroDef) (i : ℕ) → i < length micros → micro ≡ get_or micros i micro
    → (first ++ map (set_up_at script node) (take i micros)) ++ set_up_at script node micro ∷ [] ≡ first ++ map (set_up_at script node) (take (i + 1) micros)
filled_more script node first micros micro i within e =
    append_assoc first (map (set_up_at script node) (take i micros)) (set_up_at script node micro ∷ [])
    ∙ ap (λ (l : List (Option Seen)). first ++ l)
    (ap (λ (m : MicroDef). map (set_up_at script node) (take i micros) ++ set_up_at script node m ∷ []) e
    ∙ sym (ap (map (set_up_at script node)) (take_more micros i micro within)
    ∙ map-append (set_up_at script node) (take i micros) (get_or micros i micro ∷ [])))

-- a node's share is there, and what is left covers the other nodes
pub share_there : (nodes i each left : ℕ) → i < nodes → (nodes - i) * each ≤ left → each ≤ left
share_there nodes i each left within covers = grind arith

pub shares_left : (nodes i each old new : ℕ) → i < nodes → (nodes - i) * each ≤ old → old ≡ new + each → (nodes - (i + 1)) * each ≤ new
shares_left nodes i each old new within covers counts = grind arith
