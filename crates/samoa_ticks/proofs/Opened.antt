-- Admissions to a core in which nothing is out.
use Rattle.std.proofs.Common.{arith, ◌≡◌, ℕ, zero, suc, ◌+◌, ◌*◌, ◌<◌, ◌≤◌, refl, sym, ap, ◌∙◌, List, [], ◌∷◌, ◌++◌, append_assoc, length, length-append, get_or, Some, slice_get, take, subst}
use Rattle.std.proofs.lemmas.List.Elements.{All-get_or}
use Rattle.std.specs.List.{All}
use Rattle.std.proofs.Math.Seq.{get_or-append_seam}
use Rattle.std.proofs.lemmas.Option.{slice_get-get_or}
use Rattle.samoa_model.specs.declared.record.Ext.{Ext}
use Rattle.samoa_model.specs.declared.record.Step.{Step}
use Rattle.samoa_model.specs.declared.script.DeclDef.{DeclDef}
use Rattle.samoa_model.specs.declared.script.Script.{Script}
use Rattle.samoa_model.specs.Cells.{cells_of, greatest_budget, need}
use Rattle.samoa_model.specs.Scripts.{decl_of, no_decl}
use Rattle.samoa_invariant.specs.State as model
use Rattle.samoa_invariant.specs.Runs.{IsRun, Trace, ext_at, no_ext, play, state, with_ext}
use Rattle.samoa_invariant.proofs.representation.Traces.{is_run-with_ext, state-ext, state-step}
use Rattle.samoa_control.specs.Admission.{admitted}
use Rattle.samoa_control.specs.Since.{cleared_comps}
use Rattle.samoa_control.proofs.Since.{cleared-ext, cleared-step}
use Rattle.samoa_journal.specs.Parts.{admits, cells_for}
use Rattle.samoa_ticks.specs.Running.{HasOpened}

state-admitted : (t : Trace) (ext : Ext) → IsRun t → state (admitted t ext) ≡ model.admit (play (with_ext t ext)) (state t)
state-admitted t ext run =
    state-step (with_ext t ext) (Step.Admit (length t.exts + 1)) (is_run-with_ext t ext run)
    ∙ ap (λ (core : model.Core). model.admit (play (with_ext t ext)) core) (state-ext t ext run)

-- one was admitted
pub opened_one : (t u : Trace) (ext : Ext) → IsRun t → (state t).count ≡ length t.exts → u ≡ admitted t ext → HasOpened t (ext ∷ []) u
opened_one t u ext run all is = record {
  script = ap (λ (x : Trace). x.script) is;
  cells = ap (λ (x : Trace). x.cells) is;
  exts = ap (λ (x : Trace). x.exts) is;
  clears = ap (λ (x : Trace). x.clears) is;
  journal = ap (λ (x : Trace). x.journal) is;
  held = ap (λ (x : Trace). (state x).cells) is
      ∙ (ap (λ (core : model.Core). core.cells) (state-admitted t ext run) ∙ own);
  cleared = ap cleared_comps is ∙ (cleared-step (with_ext t ext) (Step.Admit (length t.exts + 1)) (is_run-with_ext t ext run) ∙ cleared-ext t ext);
  out = λ node p. ap (λ (x : Trace). (state x).out node p) is ∙ ap (λ (core : model.Core). core.out node p) (state-admitted t ext run);
}
  where
    here : ext_at (t.exts ++ ext ∷ []) (state t).count ≡ ext
    here = ap (λ (k : ℕ). ext_at (t.exts ++ ext ∷ []) k) all ∙ get_or-append_seam t.exts ext [] no_ext

    own : (state t).cells + cells_of t.script (ext_at (t.exts ++ ext ∷ []) (state t).count) ≡ (state t).cells + cells_for t.script (ext ∷ [])
    own = omega (arith, ap (λ (x : Ext). cells_of t.script x) here)

-- and holds cells
pub opened_holds : (t u : Trace) (ext : Ext) → IsRun t → u ≡ admitted t ext → 0 < (state u).cells
opened_holds t u ext run is =
    let budget : ℕ = (decl_of t.script (ext_at (t.exts ++ ext ∷ []) (state t).count)).budget in
    let held : (state u).cells ≡ (state t).cells + (16 * budget + 16)
    = ap (λ (x : Trace). (state x).cells) is ∙ ap (λ (core : model.Core). core.cells) (state-admitted t ext run) in
    omega (arith, held)

-- the admissions and the cells of some, and then of others
admits-append : (n : ℕ) (xs ys : List Ext) → admits n (xs ++ ys) ≡ admits n xs ++ admits (n + length xs) ys
admits-append n [] ys = ap (λ (k : ℕ). admits k ys) (omega arith)
admits-append n (x ∷ xs) ys =
    ap (λ (steps : List Step). Step.Admit (n + 1) ∷ steps)
    (admits-append (n + 1) xs ys ∙ ap (λ (k : ℕ). admits (n + 1) xs ++ admits k ys) (omega arith))

cells_for-append : (script : Script) (xs ys : List Ext) → cells_for script (xs ++ ys) ≡ cells_for script xs + cells_for script ys
cells_for-append script [] ys = omega arith
cells_for-append script (x ∷ xs) ys = omega (arith, cells_for-append script xs ys)

pub opened_more : (t u w : Trace) (xs ys : List Ext) → HasOpened t xs u → HasOpened u ys w → HasOpened t (xs ++ ys) w
opened_more t u w xs ys a b = record {
  script = b.script ∙ a.script;
  cells = b.cells ∙ a.cells;
  exts = b.exts ∙ (ap (λ (l : List Ext). l ++ ys) a.exts ∙ append_assoc t.exts xs ys);
  clears = b.clears ∙ a.clears;
  journal = b.journal
      ∙ (ap (λ (l : List Step). l ++ admits (length u.exts) ys) a.journal
      ∙ (append_assoc t.journal (admits (length t.exts) xs) (admits (length u.exts) ys)
      ∙ ap (λ (l : List Step). t.journal ++ l)
      (ap (λ (k : ℕ). admits (length t.exts) xs ++ admits k ys) (ap (λ (l : List Ext). length l) a.exts ∙ length-append t.exts xs)
      ∙ sym (admits-append (length t.exts) xs ys))));
  held = omega (arith, b.held, a.held, ap (λ (s : Script). cells_for s ys) a.script, cells_for-append t.script xs ys);
  cleared = b.cleared ∙ a.cleared;
  out = λ node p. b.out node p ∙ a.out node p;
}

budget_within : (decls : List DeclDef) (n : ℕ) → (get_or decls n no_decl).budget ≤ greatest_budget decls
budget_within [] n = omega arith
budget_within (d ∷ decls) zero = omega arith
budget_within (d ∷ decls) (suc n) = let rest = budget_within decls n in omega arith

-- a core that can hold what the script needs has room for any computation while it holds none
pub one_fits : (script : Script) (ext : Ext) (held cells : ℕ) → held ≡ 0 → need script ≤ cells → held + cells_of script ext ≤ cells
one_fits script ext held cells none room =
    let most : (decl_of script ext).budget ≤ greatest_budget script.decls = budget_within script.decls _ in omega (arith, most)

-- so it has room for the first of these
pub first_fits : (t u : Trace) (ext : Ext) → (state u).cells ≡ 0 → HasOpened t [] u → need t.script ≤ t.cells → (state u).cells + cells_of u.script ext ≤ u.cells
first_fits t u ext none opened room =
    let R : Script → Type 0 = λ script. need script ≤ u.cells in
    one_fits u.script ext (state u).cells u.cells none (subst R (sym opened.script) (let as_wide = opened.cells in omega (arith, room, as_wide)))

-- so one was admitted where no more have room
pub some_opened : (t u : Trace) (exts : List Ext) (count most : ℕ) → 0 < most → most ≤ length exts → need t.script ≤ t.cells → HasOpened t (take count exts) u → (count ≡ 0 → (state u).cells ≡ 0)
    → ((ext : Ext) → count < most → slice_get exts count ≡ Some ext → u.cells < (state u).cells + cells_of u.script ext) → 0 < count
some_opened t u exts zero most some within room opened none_held wide =
    let first : Ext = ext_at exts 0 in
    let too_wide = wide first some (slice_get-get_or exts 0 no_ext (omega (arith, some, within))) in
    let fits = first_fits t u first (none_held refl) opened room in
    absurd (omega (arith, too_wide, fits))
some_opened t u exts (suc n) most some within room opened none_held wide = omega arith

-- one of the admissions
pub item_there : (exts : List Ext) (i : ℕ) (ext : Ext) → i < length exts → ext ≡ get_or exts i ext → slice_get exts i ≡ Some ext
item_there exts i ext within is = slice_get-get_or exts i ext within ∙ ap (λ (x : Ext). Some x) (sym is)

pub item_named : (P : Ext → Type 0) (exts : List Ext) (i : ℕ) (ext : Ext) → i < length exts → ext ≡ get_or exts i ext → All P exts → P ext
item_named P exts i ext within is all = subst P (sym is) (All-get_or P exts i ext within all)

pub some_same : (x y : Ext) → Some x ≡ Some y → x ≡ y
some_same x y e = cc
