-- What later ticks admit.
use Rattle.std.proofs.Common.{refl, inl, inr, ◌⊎◌, zero, suc, append_assoc, append-nil, ◌≡◌, ℕ, Bool, ◌+◌, ◌-◌, ◌<◌, ◌≤◌, true, false, List, [], ◌∷◌, ◌++◌, length, take, sym, ap, ◌∙◌, subst, arith}
use Rattle.samoa_model.specs.declared.record.Ext.{Ext}
use Rattle.samoa_model.specs.declared.script.Script.{Script}
use Rattle.std.proofs.lemmas.Grind.{common_steps}
use Rattle.std.proofs.lemmas.Bool.Decides.{leb_tells}
use Rattle.samoa_serial.specs.Batch.{batch_after}
use Rattle.samoa_serial.specs.SerialRun.{serial}
use Rattle.samoa_serial.proofs.KeptLaws.{past_stays}
use Rattle.samoa_serial.proofs.ListLaws.{each_append}
use Rattle.samoa_serial.specs.Lists.{Each}
use Rattle.samoa_serial.specs.Ticks.{history_within, admitted, admitted_by, is_limited_by, most_admitted}
use Rattle.samoa_serial.proofs.LimitLaws.{admitted_to-is, tick_admits, tick_ticks}

-- what later ticks admit is of later ticks
pub record LaterTicks (script : Script) (n : ℕ) (whole : List Ext) : Type 0 where
  pub rest : List Ext
  pub is : whole ≡ admitted_by most_admitted script n ++ rest
  pub later : Each (λ (ext : Ext). n < ext.tick) rest

next_same : (script : Script) (n : ℕ) → is_limited_by most_admitted script n ≡ true → admitted_by most_admitted script (n + 1) ≡ admitted_by most_admitted script n
unfolding is_limited_by admitted_by
next_same script n passed =
    let one : n + 1 ≡ 1 + n = omega arith in
    let many : most_admitted < length (history_within most_admitted script n) = grind (arith, common_steps, leb_tells, passed) in
    ap (λ (h : List Ext). take most_admitted h) (ap (λ (k : ℕ). history_within most_admitted script k) one ∙ past_stays most_admitted script n 1 many)

weaker_ticks : (n m : ℕ) → n < m → (xs : List Ext) → Each (λ (ext : Ext). ext.tick ≡ m) xs → Each (λ (ext : Ext). n < ext.tick) xs
weaker_ticks n m less [] all = tt
weaker_ticks n m less (x ∷ xs) all = (omega (arith, less, all.0), weaker_ticks n m less xs all.1)

later_ticks : (script : Script) (n k : ℕ) → LaterTicks script n (admitted_by most_admitted script (k + n))
later_ticks script n zero = record { rest = []; is = ap (λ (m : ℕ). admitted_by most_admitted script m) (omega arith) ∙ sym (append-nil (admitted_by most_admitted script n)); later = tt }
later_ticks script n (suc k) = go (later_ticks script n k) (which (is_limited_by most_admitted script (k + n)) refl)
  where
    which : (b : Bool) → is_limited_by most_admitted script (k + n) ≡ b → (is_limited_by most_admitted script (k + n) ≡ true) ⊎ (is_limited_by most_admitted script (k + n) ≡ false)
    which true e = inl e
    which false e = inr e

    one : suc k + n ≡ (k + n) + 1
    one = omega arith

    go : LaterTicks script n (admitted_by most_admitted script (k + n)) → (is_limited_by most_admitted script (k + n) ≡ true) ⊎ (is_limited_by most_admitted script (k + n) ≡ false)
        → LaterTicks script n (admitted_by most_admitted script (suc k + n))
    go so (inl passed) = record { rest = so.rest; is = ap (λ (m : ℕ). admitted_by most_admitted script m) one ∙ (next_same script (k + n) passed ∙ so.is); later = so.later }
    go so (inr free) =
        let before : List Ext = admitted_by most_admitted script (k + n) in
        let batch : List Ext = batch_after script ((k + n) + 1) before (serial script before).comps in
        let more : List Ext = take (most_admitted - length before) batch in
        record {
          rest = so.rest ++ more;
          is = ap (λ (m : ℕ). admitted_by most_admitted script m) one
              ∙ (tick_admits most_admitted script (k + n) batch free refl
              ∙ (ap (λ (xs : List Ext). xs ++ more) so.is ∙ append_assoc (admitted_by most_admitted script n) so.rest more));
          later = each_append (λ (ext : Ext). n < ext.tick) so.rest more so.later
              (weaker_ticks n ((k + n) + 1) (omega arith) more (tick_ticks most_admitted script (k + n) batch refl));
        }

pub after_tick : (script : Script) (n : ℕ) → n ≤ script.ticks → LaterTicks script n (admitted script)
after_tick script n le =
    let all : (script.ticks - n) + n ≡ script.ticks = omega (arith, le) in
    subst (λ (xs : List Ext). LaterTicks script n xs) (ap (λ (k : ℕ). admitted_by most_admitted script k) all ∙ sym (admitted_to-is most_admitted script))
    (later_ticks script n (script.ticks - n))
