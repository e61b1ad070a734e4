-- The entries of a computation, one after another.
use Rattle.std.proofs.Common.{◌≡◌, ℕ, zero, suc, ◌+◌, ◌^◌, ◌<◌, Bool, true, false, cond, List, [], ◌∷◌, ◌++◌, length, take, length-take, Some, None, refl, sym, ap, ◌∙◌, arith, append_assoc, append-nil, slice_get, count_by}
use Rattle.std.proofs.lemmas.List.{take_more, take_all}
use Rattle.std.proofs.lemmas.List.Sums.{count_by_more_yes, count_by_more_no, count_by-le-length}
use Rattle.std.proofs.lemmas.Option.{slice_get_within, get_or_from_slice_get}
use Rattle.samoa_model.specs.declared.record.Entry.{Entry}
use Rattle.samoa_model.specs.declared.record.Ext.{Ext}
use Rattle.samoa_model.specs.declared.script.Script.{Script}
use Rattle.samoa_serial.specs.Whole.{Ran}
use Rattle.samoa_serial.specs.Lines.{ext_text, entry_text, end_text}
use Rattle.samoa_serial.specs.Report.{comp_text, entries_text}
use Rattle.samoa_serial.proofs.ReportLaws.{comp_text-parts, entries_text-append}

-- an element that was found
pub found_within : {X : Type 0} (xs : List X) (at : ℕ) (x : X) → Some x ≡ slice_get xs at → at < length xs
found_within xs at x h = slice_get_within xs at x (sym h)

-- the first elements, with the one at an index
pub take_one_more : {X : Type 0} (xs : List X) (at : ℕ) (x : X) → Some x ≡ slice_get xs at → take (at + 1) xs ≡ take at xs ++ x ∷ []
take_one_more xs at x h =
    take_more xs at x (found_within xs at x h) ∙ ap (λ y. take at xs ++ y ∷ []) (get_or_from_slice_get xs at x x (sym h))

-- where nothing stands at an index, the first elements are all
pub take_whole : {X : Type 0} (xs : List X) (at : ℕ) → None ≡ slice_get xs at → take at xs ≡ xs
take_whole [] at h = take_all at [] (omega arith)
take_whole (x ∷ xs) zero h = cc
take_whole (x ∷ xs) (suc at) h = ap (λ l. x ∷ l) (take_whole xs at h)

-- the line of one entry more
pub entries_text-one_more : (script : Script) (comp : ℕ) (calls : Bool) (es : List Entry) (at : ℕ) (e : Entry) → Some e ≡ slice_get es at
    → entries_text script comp calls (take (at + 1) es) ≡ entries_text script comp calls (take at es) ++ entry_text script comp calls e
entries_text-one_more script comp calls es at e h =
    ap (λ (l : List Entry). entries_text script comp calls l) (take_one_more es at e h)
    ∙ entries_text-append script comp calls (take at es) (e ∷ [])
    ∙ ap (λ (text : List ℕ). entries_text script comp calls (take at es) ++ text) (append-nil (entry_text script comp calls e))

-- one entry more is counted
pub count_by-one_more : {X : Type 0} (p : X → Bool) (xs : List X) (at : ℕ) (x : X) → Some x ≡ slice_get xs at
    → count_by p (take (at + 1) xs) ≡ count_by p (take at xs) + cond (p x) 1 0
count_by-one_more p xs at x h = here (p x) refl
  where
    here : (b : Bool) → p x ≡ b → count_by p (take (at + 1) xs) ≡ count_by p (take at xs) + cond b 1 0
    here true e = count_by_more_yes p xs at x (found_within xs at x h) (ap p (get_or_from_slice_get xs at x x (sym h)) ∙ e)
    here false e = let same = count_by_more_no p xs at x (found_within xs at x h) (ap p (get_or_from_slice_get xs at x x (sym h)) ∙ e) in omega arith

-- the first line, the entries and the last line, each after what stood before
pub comp_text-built : (script : Script) (calls : Bool) (comp : ℕ) (ext : Ext) (ran : Ran) (start first more all : List ℕ)
    → first ≡ start ++ ext_text script comp ext → more ≡ first ++ entries_text script comp calls ran.world.entries → all ≡ more ++ end_text comp ran.value
    → all ≡ start ++ comp_text script calls comp ext ran
comp_text-built script calls comp ext ran start first more all e f h =
    let head = ext_text script comp ext in
    let entries = entries_text script comp calls ran.world.entries in
    let last = end_text comp ran.value in
    h ∙ ap (λ (t : List ℕ). t ++ last) (f ∙ ap (λ (t : List ℕ). t ++ entries) e)
    ∙ ap (λ (t : List ℕ). t ++ last) (append_assoc start head entries)
    ∙ append_assoc start (head ++ entries) last
    ∙ ap (λ (t : List ℕ). start ++ t) (sym (comp_text-parts script calls comp ext ran))

-- there is room to count one more
pub room_for_one : (p : Entry → Bool) (es : List Entry) (at : ℕ) (e : Entry) (before now : ℕ) → Some e ≡ slice_get es at → now ≡ before + count_by p (take at es)
    → before + length es < 2 ^ 64 → now + 1 < 2 ^ 64
room_for_one p es at e before now h counted room =
    omega (arith, found_within es at e h, count_by-le-length p (take at es), length-take at es)
