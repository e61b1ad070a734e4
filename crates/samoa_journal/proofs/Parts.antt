-- Journals in parts.
use Rattle.std.proofs.Common.{◌≡◌, ◌⊎◌, inl, refl, sym, ap, subst, ◌∙◌, arith, ℕ, zero, suc, ◌+◌, ◌-◌, ◌<◌, ◌≤◌, Bool, true, false, List, [], ◌∷◌, ◌++◌, append_assoc, append-nil, length, length-append, take, drop, slice_get, Some, None}
use Rattle.std.proofs.lemmas.Grind.{flat_map-append}
use Rattle.std.proofs.lemmas.List.{get_or_append_left}
use Rattle.samoa_model.specs.declared.record.Ext.{Ext}
use Rattle.samoa_model.specs.declared.record.Step.{Step}
use Rattle.samoa_model.specs.declared.script.Script.{Script}
use Rattle.samoa_model.specs.Cells.{cells_of}
use Rattle.samoa_serial.specs.Lists.{Each}
use Rattle.samoa_serial.proofs.ListLaws.{each_append}
use Rattle.samoa_invariant.specs.Runs.{Trace, ext_at, is_clear, no_ext, opening_trace}
use Rattle.samoa_journal.specs.Parts.{AdmitsNone, AreLongest, HasParts, IsLastLongest, IsLongest, IsPacked, IsPart, Part, admits, cells_for, ends_from, exts_of, part_steps, steps_from, tick_of}

-- ---- nothing was run
pub packed_none : (alone : Bool) (script : Script) (cells : ℕ) (next : List Ext) → IsPacked alone (opening_trace script cells) next
packed_none alone script cells next = record {
  parts = [];
  in_parts = record { exts = refl; journal = refl; clears = refl; each = tt };
  longest = λ e. tt;
  new_part = λ e ext is. tt;
}

-- ---- one part more
exts-more : (parts : List Part) (part : Part) → exts_of (parts ++ part ∷ []) ≡ exts_of parts ++ part.exts
exts-more parts part =
    flat_map-append (λ (p : Part). p.exts) parts (part ∷ []) ∙ ap (λ (xs : List Ext). exts_of parts ++ xs) (append-nil part.exts)

steps-more : (n : ℕ) (parts : List Part) (part : Part)
    → steps_from n (parts ++ part ∷ []) ≡ steps_from n parts ++ part_steps (n + length (exts_of parts)) part
steps-more n [] part =
    append-nil (part_steps n part) ∙ ap (λ (k : ℕ). part_steps k part) (omega arith)
steps-more n (p ∷ parts) part =
    ap (λ (xs : List Step). part_steps n p ++ xs)
    (steps-more (n + length p.exts) parts part
    ∙ ap (λ (k : ℕ). steps_from (n + length p.exts) parts ++ part_steps k part) (omega (arith, length-append p.exts (exts_of parts))))
    ∙ sym (append_assoc (part_steps n p) (steps_from (n + length p.exts) parts) (part_steps (n + length (exts_of (p ∷ parts))) part))

ends-more : (made n : ℕ) (parts : List Part) (part : Part)
    → ends_from made n (parts ++ part ∷ [])
    ≡ ends_from made n parts ++ (made + length (steps_from n parts) + length (part_steps (n + length (exts_of parts)) part)) ∷ []
ends-more made n [] part =
    let same : n ≡ n + 0 = omega arith in
    ap (λ (k : ℕ). k ∷ []) (omega (arith, ap (λ (k : ℕ). length (part_steps k part)) same))
ends-more made n (p ∷ parts) part =
    let end : ℕ = made + length (part_steps n p) in
    let rest : List ℕ = ends_from end (n + length p.exts) parts in
    let same : n + length p.exts + length (exts_of parts) ≡ n + length (exts_of (p ∷ parts)) = omega (arith, length-append p.exts (exts_of parts)) in
    ap (λ (xs : List ℕ). end ∷ xs)
    (ends-more end (n + length p.exts) parts part
    ∙ ap (λ (k : ℕ). rest ++ k ∷ [])
    (omega (arith, length-append (part_steps n p) (steps_from (n + length p.exts) parts), ap (λ (k : ℕ). length (part_steps k part)) same)))

longest-more : (script : Script) (cells : ℕ) (parts : List Part) (part : Part) → AreLongest script cells parts → IsLastLongest script cells parts (ext_at part.exts 0)
    → AreLongest script cells (parts ++ part ∷ [])
longest-more script cells [] part all last = tt
longest-more script cells (p ∷ []) part all last = (last, tt)
longest-more script cells (p ∷ q ∷ parts) part all last = (all.0, longest-more script cells (q ∷ parts) part all.1 last)

last-more : (script : Script) (cells : ℕ) (parts : List Part) (part : Part) (next : Ext) → IsLongest script cells part next → IsLastLongest script cells (parts ++ part ∷ []) next
last-more script cells [] part next is = is
last-more script cells (p ∷ []) part next is = is
last-more script cells (p ∷ q ∷ parts) part next is = last-more script cells (q ∷ parts) part next is

nothing : (k : ℕ) → slice_get {X = Ext} [] k ≡ None
nothing k = refl

-- what stands at a place of what is left
left_at : (n i : ℕ) (xs : List Ext) → slice_get (drop n xs) i ≡ slice_get xs (n + i)
left_at zero i xs =
    let same : i ≡ zero + i = omega arith in
    ap (λ (k : ℕ). slice_get xs k) same
left_at (suc n) i [] = sym (nothing (suc n + i))
left_at (suc n) i (x ∷ xs) =
    let same : suc (n + i) ≡ suc n + i = omega arith in
    left_at n i xs ∙ ap (λ (k : ℕ). slice_get (x ∷ xs) k) same

first_of : (count : ℕ) (xs : List Ext) (ext : Ext) → 0 < count → slice_get xs 0 ≡ Some ext → ext_at (take count xs) 0 ≡ ext
first_of zero xs ext some is = absurd (omega (arith, some))
first_of (suc count) [] ext some is = absurd (cc is)
first_of (suc count) (x ∷ xs) ext some is = cc is

pub record IsMore (t u : Trace) (more : List Ext) (others : List Step) : Type 0 where
  pub script : u.script ≡ t.script
  pub cells : u.cells ≡ t.cells
  pub exts : u.exts ≡ t.exts ++ more
  pub journal : u.journal ≡ t.journal ++ (admits (length t.exts) more ++ others)
  pub clears : u.clears ≡ t.clears ++ length u.journal ∷ []

pub packed_more : (alone : Bool) (t u : Trace) (next : List Ext) (count : ℕ) (others : List Step) → IsPacked alone t next
    → IsPart (record { exts = take count next; others = others }) → 0 < count → (first : Ext) → slice_get next 0 ≡ Some first
    → IsMore t u (take count next) others
    → (alone ≡ false → (ext : Ext) → slice_get next count ≡ Some ext → t.cells < cells_for t.script (take count next) + cells_of t.script ext)
    → IsPacked alone u (drop count next)
packed_more alone t u next count others packed is_part some first is_first more wide =
    let part : Part = record { exts = take count next; others = others } in
    let parts : List Part = packed.parts in
    let was : HasParts t parts = packed.in_parts in
    let as_many : length t.exts ≡ 0 + length (exts_of parts) = ap (λ (xs : List Ext). length xs) was.exts ∙ omega arith in
    let steps : u.journal ≡ steps_from 0 (parts ++ part ∷ []) =
    more.journal
    ∙ (ap (λ (xs : List Step). xs ++ part_steps (length t.exts) part) was.journal
    ∙ (ap (λ (k : ℕ). steps_from 0 parts ++ part_steps k part) as_many ∙ sym (steps-more 0 parts part))) in
    let size : length u.journal ≡ 0 + length (steps_from 0 parts) + length (part_steps (0 + length (exts_of parts)) part) =
    ap (λ (xs : List Step). length xs) (steps ∙ steps-more 0 parts part)
    ∙ (length-append (steps_from 0 parts) (part_steps (0 + length (exts_of parts)) part) ∙ omega arith) in
    record {
      parts = parts ++ part ∷ [];
      in_parts = record {
        exts = more.exts ∙ (ap (λ (xs : List Ext). xs ++ part.exts) was.exts ∙ sym (exts-more parts part));
        journal = steps;
        clears = more.clears
            ∙ (ap (λ (xs : List ℕ). xs ++ length u.journal ∷ []) was.clears
            ∙ (ap (λ (k : ℕ). ends_from 0 0 parts ++ k ∷ []) size ∙ sym (ends-more 0 0 parts part)));
        each = each_append IsPart parts (part ∷ []) was.each (is_part, tt);
      };
      longest = λ e.
          subst (λ (s : Script). AreLongest s u.cells (parts ++ part ∷ [])) (sym more.script)
          (subst (λ (c : ℕ). AreLongest t.script c (parts ++ part ∷ [])) (sym more.cells)
          (longest-more t.script t.cells parts part (packed.longest e)
          (subst (λ (x : Ext). IsLastLongest t.script t.cells parts x) (sym (first_of count next first some is_first)) (packed.new_part e first is_first))));
      new_part = λ e ext is.
          subst (λ (s : Script). IsLastLongest s u.cells (parts ++ part ∷ []) ext) (sym more.script)
          (subst (λ (c : ℕ). IsLastLongest t.script c (parts ++ part ∷ []) ext) (sym more.cells)
          (last-more t.script t.cells parts part ext
          (λ same. wide e ext (ap (λ (k : ℕ). slice_get next k) (omega arith) ∙ (sym (left_at count 0 next) ∙ is)))));
    }

-- ---- where a computation was admitted
-- what begins a part, or comes after another of its tick
pub data Stands (exts : List Ext) (ends : List ℕ) (made k comp : ℕ) : Type 0 where
  Begins : (k ≡ 0) ⊎ (is_clear ends (made + k) ≡ true) → Stands exts ends made k comp
  Follows : 2 ≤ comp → (ext_at exts (comp - 2)).tick ≡ (ext_at exts (comp - 1)).tick → Stands exts ends made k comp

each_at : (P : Ext → Type 0) (xs : List Ext) → Each P xs → (i : ℕ) → i < length xs → P (ext_at xs i)
each_at P [] all i less = absurd (omega (arith, less))
each_at P (x ∷ xs) all zero less = all.0
each_at P (x ∷ xs) all (suc i) less = each_at P xs all.1 i (omega (arith, less))

-- a place in a list after others
after_these : (before xs : List Ext) (i : ℕ) → ext_at (before ++ xs) (length before + i) ≡ ext_at xs i
after_these [] xs i = ap (λ (k : ℕ). ext_at xs k) (omega arith)
after_these (b ∷ before) xs i =
    let same : length (b ∷ before) + i ≡ suc (length before + i) = omega arith in
    ap (λ (k : ℕ). ext_at (b ∷ (before ++ xs)) k) same ∙ after_these before xs i

pub slice_left : (xs ys : List Step) (k : ℕ) → k < length xs → slice_get (xs ++ ys) k ≡ slice_get xs k
slice_left [] ys k less = absurd (omega (arith, less))
slice_left (x ∷ xs) ys zero less = refl
slice_left (x ∷ xs) ys (suc k) less = slice_left xs ys k (omega (arith, less))

pub slice_right : (xs ys : List Step) (k : ℕ) → slice_get (xs ++ ys) (length xs + k) ≡ slice_get ys k
slice_right [] ys k = ap (λ (i : ℕ). slice_get ys i) (omega arith)
slice_right (x ∷ xs) ys k =
    let same : length (x ∷ xs) + k ≡ suc (length xs + k) = omega arith in
    ap (λ (i : ℕ). slice_get (x ∷ (xs ++ ys)) i) same ∙ slice_right xs ys k

pub length-admits : (n : ℕ) (exts : List Ext) → length (admits n exts) ≡ length exts
length-admits n [] = refl
length-admits n (ext ∷ exts) = ap (λ (k : ℕ). suc k) (length-admits (n + 1) exts)

pub admit_at : (n : ℕ) (exts : List Ext) (k comp : ℕ) → k < length exts → slice_get (admits n exts) k ≡ Some (Step.Admit comp) → comp ≡ n + k + 1
admit_at n [] k comp less is = absurd (omega (arith, less))
admit_at n (ext ∷ exts) zero comp less is = omega (arith, number (n + 1) comp is)
  where
    number : (a b : ℕ) → Some (Step.Admit a) ≡ Some (Step.Admit b) → a ≡ b
    number a b e = cc e
admit_at n (ext ∷ exts) (suc k) comp less is = omega (arith, admit_at (n + 1) exts k comp (omega (arith, less)) is)

pub none_at : (others : List Step) (k comp : ℕ) → Each AdmitsNone others → slice_get others k ≡ Some (Step.Admit comp) → ⊥
none_at [] k comp all is = cc is
none_at (s ∷ others) zero comp all is = subst AdmitsNone (same s comp is) all.0
  where
    same : (s : Step) (comp : ℕ) → Some s ≡ Some (Step.Admit comp) → s ≡ Step.Admit comp
    same s comp e = cc e
none_at (s ∷ others) (suc k) comp all is = none_at others k comp all.1 is

-- the two computations are of one part
pub in_part : (before : List Ext) (part : Part) (rest : List Ext) (made k comp : ℕ) (ends : List ℕ) → IsPart part → k < length part.exts → comp ≡ length before + k + 1
    → Stands (before ++ (part.exts ++ rest)) ends made k comp
in_part before part rest made zero comp ends is less number = Begins (inl refl)
in_part before part rest made (suc k) comp ends is less number =
    Follows (omega (arith, number)) (at k (omega (arith, less)) (comp - 2) (omega (arith, number)) ∙ sym (at (suc k) less (comp - 1) (omega (arith, number))))
  where
    at : (i : ℕ) → i < length part.exts → (j : ℕ) → j ≡ length before + i → (ext_at (before ++ (part.exts ++ rest)) j).tick ≡ tick_of part
    at i inside j is_at =
        ap (λ (x : ℕ). (ext_at (before ++ (part.exts ++ rest)) x).tick) is_at
        ∙ (ap (λ (x : Ext). x.tick) (after_these before (part.exts ++ rest) i ∙ get_or_append_left part.exts rest no_ext i inside)
        ∙ each_at (λ (x : Ext). x.tick ≡ tick_of part) part.exts is.of_tick i inside)
