-- The count of the calls made, and the room that is kept.
use Rattle.std.proofs.Common.{◌≡◌, ℕ, suc, ◌+◌, ◌<◌, refl, sym, ap, ◌∙◌, arith, ◌∷◌, [], ◌++◌, List, length, map, reverse, add-zero, take, get_or, append_assoc}
use Rattle.std.proofs.lemmas.List.{length-reverse, take_more, length-take-le}
use Rattle.samoa_model.specs.declared.record.Entry.{Entry}
use Rattle.samoa_serial.specs.declared.call.Active.{Active}
use Rattle.samoa_serial.specs.declared.call.Call.{Call}
use Rattle.samoa_model.specs.declared.ids.HandlerId.{HandlerId}
use Rattle.samoa_serial.specs.World.{calls_from, entry_of}

-- a list that reads backwards as a nonempty one isn't empty
pub length_of_reverse : (xs : List Active) (a : Active) (rest : List Active) → reverse xs ≡ a ∷ rest → length xs ≡ suc (length rest)
length_of_reverse xs a rest e = sym (length-reverse xs) ∙ ap (λ (ys : List Active). length ys) e

pub length-entries_of : (caller : ℕ) (arg : List ℕ) (cs : List Call) → length (map (entry_of caller arg) cs) ≡ length cs
length-entries_of caller arg [] = refl
length-entries_of caller arg (c ∷ cs) = ap suc (length-entries_of caller arg cs)

-- one handler more is one call more, with the next number
pub entries_of-more : (caller : ℕ) (arg : List ℕ) (n : ℕ) (hs : List HandlerId) (h : HandlerId)
    → map (entry_of caller arg) (calls_from n (hs ++ h ∷ [])) ≡ map (entry_of caller arg) (calls_from n hs) ++ entry_of caller arg (record { number = n + length hs + 1; handler = h }) ∷ []
entries_of-more caller arg n [] h = rw add-zero refl
entries_of-more caller arg n (x ∷ xs) h =
    let same : n + 1 + length xs + 1 ≡ n + suc (length xs) + 1 = omega arith in
    ap (λ (es : List Entry). entry_of caller arg (record { number = n + 1; handler = x }) ∷ es)
    (entries_of-more caller arg (n + 1) xs h ∙ ap (λ (k : ℕ). map (entry_of caller arg) (calls_from (n + 1) xs) ++ entry_of caller arg (record { number = k; handler = h }) ∷ []) same)

-- the step of a loop that enters the calls
pub entries_step : (caller : ℕ) (arg : List ℕ) (n : ℕ) (hs : List HandlerId) (i number : ℕ) (d : HandlerId) → i < length hs → number ≡ n + i
    → (es first : List Entry) → es ≡ first ++ map (entry_of caller arg) (calls_from n (take i hs))
    → es ++ Entry.Accepted (number + 1) caller (get_or hs i d) arg ∷ [] ≡ first ++ map (entry_of caller arg) (calls_from n (take (i + 1) hs))
entries_step caller arg n hs i number d lt is_number es first is_entries =
    let h : HandlerId = get_or hs i d in
    let len : length (take i hs) ≡ i = length-take-le i hs (omega arith) in
    let same : number + 1 ≡ n + length (take i hs) + 1 = omega arith in
    let more = map (entry_of caller arg) (calls_from n (take i hs)) in
    ap (λ (xs : List Entry). xs ++ Entry.Accepted (number + 1) caller h arg ∷ []) is_entries
    ∙ (append_assoc first more (Entry.Accepted (number + 1) caller h arg ∷ [])
    ∙ ap (λ (xs : List Entry). first ++ xs)
    (ap (λ (k : ℕ). more ++ Entry.Accepted k caller h arg ∷ []) same
    ∙ (sym (entries_of-more caller arg n (take i hs) h)
    ∙ ap (λ (ys : List HandlerId). map (entry_of caller arg) (calls_from n ys)) (sym (take_more hs i d lt)))))
