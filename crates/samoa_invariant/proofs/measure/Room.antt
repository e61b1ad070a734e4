-- How many steps an admission adds to those still to come.
use Rattle.std.proofs.Common.{arith, ◌≡◌, ◌≢◌, ℕ, zero, suc, ◌+◌, ◌-◌, ◌*◌, ◌≤◌, ◌<◌, refl, sym, ap, ◌∙◌, subst, Bool, true, false, List, [], ◌∷◌, length, slice_get, Some, take}
use Rattle.std.specs.Prelude.{nat_lt}
use Rattle.samoa_model.specs.declared.record.Ext.{Ext}
use Rattle.samoa_model.specs.Range.{IsInRange}
use Rattle.samoa_model.specs.Scripts.{decl_of}
use Rattle.samoa_serial.specs.Calls.{Computation}
use Rattle.samoa_serial.specs.Alone.{next_step}
use Rattle.samoa_serial.specs.Whole.{Ran}
use Rattle.samoa_serial.specs.SerialRun.{ran_of, serial}
use Rattle.samoa_serial.proofs.ScriptLaws.{turns_of_ran-at_most}
use Rattle.samoa_invariant.specs.Slots.{At}
use Rattle.samoa_invariant.specs.Play.{Play, turns, whole_of}
use Rattle.samoa_invariant.specs.Runs.{Trace, ext_at, no_ext, play}
use Rattle.samoa_invariant.specs.State.{Core, admit, home_of, left, left_of, named, short_at, shorts, sum_to, to_end}
use Rattle.samoa_invariant.proofs.measure.Lefts.{home-most}
use Rattle.samoa_invariant.proofs.representation.Scripted.{get_there, plays}
use Rattle.samoa_invariant.proofs.refinement.Serials.{stood_is, whole_is}
use Rattle.samoa_invariant.proofs.preservation.Slots.{put-else}

short-most : (b : Bool) → short_at b ≤ suc zero
short-most true = omega arith
short-most false = omega arith

shorts-most : (private local : ℕ → ℕ) (qs : List ℕ) → shorts private local qs ≤ length qs
shorts-most private local [] = omega arith
shorts-most private local (q ∷ qs) =
    let here : short_at (nat_lt (local q) (private q)) ≤ suc zero = short-most (nat_lt (local q) (private q)) in
    let rest : shorts private local qs ≤ length qs = shorts-most private local qs in
    omega arith

end-most : (b : Bool) → to_end b ≤ suc zero
end-most true = omega arith
end-most false = omega arith

-- a computation has at most twice its handler steps, one release for each microprotocol that it names, and two more to come
pub left_of-most : (P : Play) (core : Core) (k : ℕ) → left_of P core k ≤ 2 * turns P k + length (named (P.decl k)) + 2
left_of-most P core k =
    let home : home_of P core k (next_step (core.comp k)) ≤ suc zero = home-most P core k (next_step (core.comp k)) in
    let short : shorts (core.private k (P.node k)) (core.local (P.node k)) (named (P.decl k)) ≤ length (named (P.decl k)) =
    shorts-most (core.private k (P.node k)) (core.local (P.node k)) (named (P.decl k)) in
    let end : to_end (core.ended k) ≤ suc zero = end-most (core.ended k) in
    let steps : turns P k - core.made k ≤ turns P k = omega arith in
    omega arith

sum-same : (f g : ℕ → ℕ) (n : ℕ) → ((j : ℕ) → j < n → f j ≡ g j) → sum_to f n ≡ sum_to g n
sum-same f g zero h = refl
sum-same f g (suc n) h =
    let ih : sum_to f n ≡ sum_to g n = sum-same f g n (λ j lt. h j (omega arith)) in
    let here : f n ≡ g n = h n (omega arith) in
    omega arith

-- an admission changes nothing of the others
others-same : (P : Play) (core : Core) (j : ℕ) → j ≢ core.count → left_of P (admit P core) j ≡ left_of P core j
others-same P core j ne =
    let new : Core = admit P core in
    let private : new.private j ≡ core.private j = put-else {A = At ℕ} core.private core.count j _ ne in
    let comp : new.comp j ≡ core.comp j = put-else {A = Computation} core.comp core.count j _ ne in
    let made : new.made j ≡ core.made j = put-else {A = ℕ} core.made core.count j _ ne in
    let ended : new.ended j ≡ core.ended j = put-else {A = Bool} core.ended core.count j _ ne in
    let part : (Bool → Computation → ℕ → (ℕ → ℕ → ℕ) → ℕ) = (λ e c m v. 2 * (turns P j - m)
    + (home_of P core j (next_step c) + (shorts (v (P.node j)) (core.local (P.node j)) (named (P.decl j)) + to_end e))) in
    ap (λ (e : Bool). part e (new.comp j) (new.made j) (new.private j)) ended
    ∙ (ap (λ (c : Computation). part (core.ended j) c (new.made j) (new.private j)) comp
    ∙ (ap (λ (m : ℕ). part (core.ended j) (core.comp j) m (new.private j)) made
    ∙ ap (λ (v : ℕ → ℕ → ℕ). part (core.ended j) (core.comp j) (core.made j) v) private))

pub admitted_left : (P : Play) (core : Core) → left P (admit P core) ≤ left P core + (2 * turns P core.count + length (named (P.decl core.count)) + 2)
admitted_left P core =
    let others : sum_to (left_of P (admit P core)) core.count ≡ left P core =
    sum-same (left_of P (admit P core)) (left_of P core) core.count (λ j lt. others-same P core j (λ e. omega arith)) in
    let mine : left_of P (admit P core) core.count ≤ 2 * turns P core.count + length (named (P.decl core.count)) + 2 = left_of-most P (admit P core) core.count in
    omega arith

-- the handler steps of an admitted computation
pub turns-most : (t : Trace) (k : ℕ) → IsInRange t.script → k < length t.exts → turns (play t) k ≤ 5 * (decl_of t.script (ext_at t.exts k)).budget + 4
turns-most t k range lt =
    let x : Ext = ext_at t.exts k in
    let there : slice_get t.exts k ≡ Some x = get_there t.exts k no_ext lt in
    let is : whole_of (play t) k ≡ ran_of t.script (take k t.exts) ((serial t.script (take k t.exts)).states x.node.0) x =
    whole_is (play t) t.script t.exts (plays t.script t.cells t.exts) k x there (stood_is (play t) t.script t.exts (plays t.script t.cells t.exts) k (omega arith)) in
    subst (λ (r : Ran). length r.world.turns ≤ 5 * (decl_of t.script x).budget + 4) (sym is)
    (turns_of_ran-at_most t.script (take k t.exts) ((serial t.script (take k t.exts)).states x.node.0) x range)
