-- Every history of a box.
use Rattle.std.proofs.Common.{ℕ, zero, suc, ◌-◌, ◌^◌, ◌<◌, ◌≤◌, ◌==◌, nat_lt, eqb, eq-eqb, ltb, Bool, true, false, not, cond, ◌||◌, ◌&&◌, ◌≡◌, ◌⊎◌, inl, inr, List, [], ◌∷◌, ◌++◌, map, length, filter, option_to_list, Option, Some, None, refl, sym, ap, ◌∙◌, subst, subst₂, if◌then◌else◌, append_assoc, append-nil, map-id, arith, eqb-true, lt-ltb, ltb-true, le-ltb, true≢false}
use Rattle.std.specs.List.{list_any}
use Rattle.std.proofs.lemmas.Bool.{cases_order}
use Rattle.std.proofs.lemmas.List.{map-append}
use Rattle.std.proofs.lemmas.List.Elements.{filter-append}
use Rattle.samoa_model.specs.declared.handler.Moment.{Moment}
use Rattle.samoa_model.specs.declared.handler.Moment.TheVariants.{Begin, Resume}
use Rattle.samoa_model.specs.declared.handler.Reply.{Reply}
use Rattle.samoa_model.specs.declared.handler.Outcome.{Outcome}
use Rattle.samoa_model.specs.declared.handler.Outcome.TheVariants as gives
use Rattle.samoa_model.specs.declared.ids.ChangeId.{ChangeId}
use Rattle.samoa_model.specs.declared.setup.Setup.{Setup}
use Rattle.samoa_serial.specs.declared.message.Message.{Message}
use Rattle.samoa_serial.specs.declared.keys.Pair.{Pair}
use Rattle.samoa_laws.proofs.lists.Messages.{same_message_equal}
use Rattle.samoa_laws.proofs.lists.Lists.{any_push, apart_filter, apart_map, apart_push, closed_among, comparable_begins, comparable_firsts, firsts_of_firsts}
use Rattle.samoa_laws.specs.lists.Lists.{Begins, Comparable, EndsOnlyIn, IsApart, among, unknown}
use Rattle.samoa_laws.specs.lists.Messages.{first_places, same_message}
use Rattle.samoa_serial.proofs.ListLaws.{begins-append, begins-refl, begins-trans}
use Rattle.samoa_serial.specs.State.{ReplState}
use Rattle.samoa_serial.specs.Rows.{word, up, change_at_place, change, deliver}
use Rattle.samoa_serial.specs.ReplTable.{first_of, is_change, repl_hand_on, repl_step}
use Rattle.samoa_laws.specs.replacement.History.{Step, left_by, frame_of, given, MayCome, IsHistory, GoesOn, Ready, HandedOn, begun, begun_in, marks, marked_in, effects, words_in, stream, changes_in, asked, turns_of, asked_by, up_to, last_value, asked_at, of_epoch, below, same_pair, is_turn, fresh, not_turn, said, said_of, pending, pending_in, begin_alike}
use Rattle.samoa_laws.proofs.replacement.Sets.{same_trans}
use Rattle.samoa_laws.proofs.replacement.Inv.{Inv, opening, first_epoch, all_of, below_zero}
use Rattle.samoa_laws.proofs.replacement.Rows.{up_next, step_gives, Holds, Marks, frame_number, step_keeps}

-- ---- the step before a mark
-- a frame is given by a ready state
record Giver (setup : Setup) (steps : List Step) (frame : List ℕ) : Type 0 where
  outcome : Outcome
  ready : Ready setup (left_by steps) outcome
  gave : frame_of outcome ≡ Some frame
  handed : (x : Message) → outcome ≡ repl_hand_on setup (left_by steps).epoch (Some x) → HandedOn setup steps x

giver : (setup : Setup) (steps : List Step) → IsHistory setup steps → (frame : List ℕ) → given steps ≡ Some frame → Giver setup steps frame
giver setup [] h frame e = absurd (cc)
giver setup (s ∷ earlier) h frame e = go s.effective refl e
  where
    is_ready : frame_of s.outcome ≡ Some frame → Ready setup s.new s.outcome
    is_ready f =
        let P : ReplState → Outcome → Type 0 = λ x o. Ready setup x o in
        subst₂ P (sym h.0.new) (sym h.0.outcome) ((step_gives setup s.old s.moment).ready frame (ap frame_of (sym h.0.outcome) ∙ f))

    go : (b : Bool) → s.effective ≡ b → (if b then frame_of s.outcome else None) ≡ Some frame → Giver setup (s ∷ earlier) frame
    go true t f = record { outcome = s.outcome; ready = is_ready f; gave = f; handed = λ x o. (t, o) }
    go false t f = absurd (cc)

hand_on_frame : (setup : Setup) (epoch : ℕ) (x : Message) → frame_of (repl_hand_on setup epoch (Some x)) ≡ Some (frame_number setup x ∷ [])
hand_on_frame setup epoch x = go (is_change setup x.kind x.value)
  where
    go : (b : Bool)
        → frame_of (if b then change setup x.value (up epoch ∷ []) (1 ∷ []) else deliver (x.origin ∷ x.number ∷ x.kind ∷ x.value ∷ []) ((if x.kind == 2 then 2 else 0) ∷ []))
        ≡ Some ((if b then 1 else if x.kind == 2 then 2 else 0) ∷ [])
    go true = refl
    go false = refl

first_word : (frame : List ℕ) (n : ℕ) → Some frame ≡ Some (n ∷ []) → word frame 0 ≡ n
first_word frame n e = ap (λ (f : List ℕ). word f 0) (inner frame (n ∷ []) e)
  where
    inner : (a b : List ℕ) → Some a ≡ Some b → a ≡ b
    inner a b h = cc

ready_marks : (setup : Setup) (s : ReplState) (outcome : Outcome) (frame : List ℕ) → (r : Ready setup s outcome) → frame_of outcome ≡ Some frame
    → Marks setup s (word frame 0) r.first
ready_marks setup s outcome frame r e = record {
  there = r.there;
  new = r.new;
  number = first_word frame (frame_number setup r.first) (sym e ∙ ap frame_of r.gives ∙ hand_on_frame setup s.epoch r.first);
}

-- ---- all histories
pub record Stands (setup : Setup) (steps : List Step) : Type 0 where
  pub holds : Holds setup (left_by steps) (begun steps) (marks steps)
  pub epoch : (left_by steps).epoch ≤ length steps

one_more : (setup : Setup) (s : Step) (earlier : List Step) → IsHistory setup (s ∷ earlier) → suc (length earlier) < 2 ^ 64 → Stands setup earlier
    → Stands setup (s ∷ earlier)
one_more setup s earlier h l before = record {
  holds =
      let P : ReplState → Type 0 = λ x. Holds setup x (begun earlier ++ begun_in s.moment) (marks earlier ++ marked_in s.old s.moment) in
      let Q : ReplState → Type 0 = λ x. Holds setup x (begun earlier) (marks earlier) in
      subst P (sym h.0.new) (step_keeps setup s.old (begun earlier) (marks earlier) s.moment (subst Q (sym h.0.old) before.holds) first short);
  epoch = grows s.new.epoch s.old.epoch (left_by earlier).epoch (length earlier) (repl_step setup s.old s.moment).0.epoch
      (ap (λ (x : ReplState). x.epoch) h.0.new) (step_gives setup s.old s.moment).epoch.0 (ap (λ (x : ReplState). x.epoch) h.0.old) before.epoch;
}
  where
    bound : (e o n k : ℕ) → e ≡ o → o ≤ n → suc n < k → e < k - 1
    bound e o n k a b c = omega arith

    short : s.old.epoch < 2 ^ 64 - 1
    short = bound s.old.epoch (left_by earlier).epoch (length earlier) (2 ^ 64) (ap (λ (x : ReplState). x.epoch) h.0.old) before.epoch l

    grows : (e o b n r : ℕ) → e ≡ r → r ≤ suc o → o ≡ b → b ≤ n → e ≤ suc n
    grows e o b n r p q u v = omega arith

    first : (frame : List ℕ) (reply : Reply) → s.moment ≡ Resume 1 frame reply → word frame 0 < 3 → (x : Message) × Marks setup s.old (word frame 0) x
    first frame reply m lt =
        let C : Moment → Type 0 = λ x. MayCome earlier x in
        let comes : MayCome earlier (Resume 1 frame reply) = subst C m h.0.comes in
        let g : Giver setup earlier frame = giver setup earlier h.1 frame (comes refl lt) in
        let R : ReplState → Type 0 = λ z. Marks setup z (word frame 0) g.ready.first in
        (g.ready.first, subst R (sym h.0.old) (ready_marks setup (left_by earlier) g.outcome frame g.ready g.gave))

pub shorter : (n k : ℕ) → suc n < k → n < k
shorter n k h = omega arith

pub stands : (setup : Setup) (steps : List Step) → IsHistory setup steps → length steps < 2 ^ 64 → Stands setup steps
stands setup [] h l = record { holds = opening (length setup.changes); epoch = omega arith }
stands setup (s ∷ earlier) h l = one_more setup s earlier h l (stands setup earlier h.1 (shorter (length earlier) (2 ^ 64) l))

-- ---- a mark is of what was handed on
pub mark_follows : (setup : Setup) (s : Step) (earlier : List Step) → IsHistory setup (s ∷ earlier)
    → (frame : List ℕ) (reply : Reply) → s.moment ≡ Resume 1 frame reply → word frame 0 < 3
    → (x : Message) × (marked_in s.old s.moment ≡ x ∷ []) × HandedOn setup earlier x
mark_follows setup s earlier h frame reply m lt =
    let C : Moment → Type 0 = λ x. MayCome earlier x in
    let comes : MayCome earlier (Resume 1 frame reply) = subst C m h.0.comes in
    let g : Giver setup earlier frame = giver setup earlier h.1 frame (comes refl lt) in (
      g.ready.first,
      ap (λ (x : Moment). marked_in s.old x) m
          ∙ ap (λ b. if b then option_to_list (first_of s.old.epoch s.old.early) else []) (lt-ltb (word frame 0) 3 lt)
          ∙ ap (λ (x : ReplState). option_to_list (first_of x.epoch x.early)) h.0.old
          ∙ ap option_to_list g.ready.there,
      g.handed g.ready.first g.ready.gives,
    )

-- ---- within one epoch
-- what is marked of an epoch, up to the present one
pub marks_begun : (setup : Setup) (steps : List Step) → IsHistory setup steps → length steps < 2 ^ 64 → (e : ℕ) → e ≤ (left_by steps).epoch
    → Begins (of_epoch e (marks steps)) (fresh (below e (marks steps)) (of_epoch e (begun steps)))
marks_begun setup steps h l e le = at (cases_order e (left_by steps).epoch)
  where
    inv : Holds setup (left_by steps) (begun steps) (marks steps)
    inv = (stands setup steps h l).holds

    at : (e ≡ (left_by steps).epoch) ⊎ ((e < (left_by steps).epoch) ⊎ ((left_by steps).epoch < e))
        → Begins (of_epoch e (marks steps)) (fresh (below e (marks steps)) (of_epoch e (begun steps)))
    at (inl q) = record { rest = fresh (marks steps) (of_epoch e (left_by steps).early); is = inv.core.ahead e (omega arith) }
    at (inr (inl q)) = (inv.core.left e q).0
    at (inr (inr q)) = absurd (omega arith)

pub last_is_turn : (setup : Setup) (steps : List Step) → IsHistory setup steps → length steps < 2 ^ 64 → (e : ℕ) → e < (left_by steps).epoch
    → EndsOnlyIn (is_turn (length setup.changes)) (of_epoch e (marks steps))
last_is_turn setup steps h l e le = ((stands setup steps h l).holds.core.left e le).1

pub none_is_turn : (setup : Setup) (steps : List Step) → IsHistory setup steps → length steps < 2 ^ 64
    → list_any (is_turn (length setup.changes)) (of_epoch (left_by steps).epoch (marks steps)) ≡ false
none_is_turn setup steps h l = (stands setup steps h l).holds.present

message_pair : (x y : Message) → same_message x y ≡ true → same_pair x y ≡ true
message_pair x y e = ap (λ (m : Message). same_pair x m) (sym (same_message_equal x y e)) ∙ rw (eq-eqb x.origin x.origin refl, eq-eqb x.number x.number refl) refl

-- what begins with comparable first places is marked alike
pub alike_marks : (before came other : List Message)
    → Comparable (first_places came) (first_places other)
    → Comparable (fresh before came) (fresh before other)
alike_marks before came other h =
    let P : List Message → List Message → Type 0 = λ l m. Comparable l m in
    subst₂ P (whole came) (whole other)
    (comparable_firsts same_pair same_trans (among same_pair before) (closed_among same_pair same_trans before)
    (first_places came) (first_places other) h)
  where
    whole : (l : List Message) → fresh before (first_places l) ≡ fresh before l
    whole l = firsts_of_firsts same_message same_pair same_trans message_pair (among same_pair before) unknown
        (closed_among same_pair same_trans before) (λ y e. absurd (cc)) l

pub epochs_alike : (setup other : Setup) (steps others : List Step) → IsHistory setup steps → IsHistory other others
    → length steps < 2 ^ 64 → length others < 2 ^ 64
    → (e : ℕ) → e ≤ (left_by steps).epoch → e ≤ (left_by others).epoch → below e (marks steps) ≡ below e (marks others)
    → Comparable (first_places (of_epoch e (begun steps))) (first_places (of_epoch e (begun others)))
    → Comparable (of_epoch e (marks steps)) (of_epoch e (marks others))
epochs_alike setup other steps others h k l m e a b same begin =
    comparable_begins (fresh (below e (marks steps)) (of_epoch e (begun steps))) (fresh (below e (marks steps)) (of_epoch e (begun others)))
    (of_epoch e (marks steps)) (of_epoch e (marks others))
    (alike_marks (below e (marks steps)) (of_epoch e (begun steps)) (of_epoch e (begun others)) begin)
    (marks_begun setup steps h l e a)
    (let P : List Message → Type 0 = λ z. Begins (of_epoch e (marks others)) (fresh z (of_epoch e (begun others))) in
    subst P (sym same) (marks_begun other others k m e b))

-- ---- the stream
said_of-append : (count : ℕ) (l m : List Message) → said_of count (l ++ m) ≡ said_of count l ++ said_of count m
said_of-append count l m =
    ap (λ z. map said z) (filter-append (not_turn count) l m) ∙ map-append said (filter (not_turn count) l) (filter (not_turn count) m)

-- what a step marks is what was pending before it
marks_pending : (setup : Setup) (s : Step) (earlier : List Step) → IsHistory setup (s ∷ earlier)
    → ((frame : List ℕ) → given earlier ≡ Some frame → (reply : Reply) × (s.moment ≡ Resume 1 frame reply))
    → marked_in s.old s.moment ≡ pending earlier
marks_pending setup s earlier h on = go (given earlier) refl
  where
    low : (n : ℕ) (a b : Bool) → n ≡ (if a then 1 else if b then 2 else 0) → n < 3
    low n true b e = omega arith
    low n false true e = omega arith
    low n false false e = omega arith

    none : (m : Moment) → MayCome earlier m → given earlier ≡ None → marked_in s.old m ≡ []
    none (Begin handler arg) comes e = refl
    none (Resume handler frame reply) comes e = at (eqb handler 1) (ltb (word frame 0) 3) refl refl
      where
        apart : given earlier ≡ Some frame → ⊥
        apart f = cc

        at : (a b : Bool) → eqb handler 1 ≡ a → ltb (word frame 0) 3 ≡ b → (if a && b then option_to_list (first_of s.old.epoch s.old.early) else []) ≡ []
        at true true p q = absurd (apart (comes (eqb-true handler 1 p) (ltb-true (word frame 0) 3 q)))
        at true false p q = refl
        at false b p q = refl

    go : (o : Option (List ℕ)) → given earlier ≡ o → marked_in s.old s.moment ≡ pending_in o (left_by earlier)
    go None e = none s.moment h.0.comes e
    go (Some frame) e =
        let r : (reply : Reply) × (s.moment ≡ Resume 1 frame reply) = on frame e in
        let g : Giver setup earlier frame = giver setup earlier h.1 frame e in
        let m : Marks setup (left_by earlier) (word frame 0) g.ready.first = ready_marks setup (left_by earlier) g.outcome frame g.ready g.gave in
        ap (λ (x : Moment). marked_in s.old x) r.1
        ∙ ap (λ b. if b then option_to_list (first_of s.old.epoch s.old.early) else [])
        (lt-ltb (word frame 0) 3 (low (word frame 0) (is_change setup g.ready.first.kind g.ready.first.value) (eqb g.ready.first.kind 2) m.number))
        ∙ ap (λ (x : ReplState). option_to_list (first_of x.epoch x.early)) h.0.old

-- a reading of outcomes that sees only what hands a message on, and there sees what `of` says of the message
record Reading {X : Type 0} (setup : Setup) (read : Outcome → List X) (of : List Message → List X) : Type 0 where
  silent : (o : Outcome) → frame_of o ≡ None → read o ≡ []
  handed : (x : Message) → read (repl_hand_on setup x.epoch (Some x)) ≡ of (x ∷ [])
  none : of [] ≡ []
  joined : (l m : List Message) → of (l ++ m) ≡ of l ++ of m

-- what a step gives is what is pending after it
gives_pending : {X : Type 0} (setup : Setup) (read : Outcome → List X) (of : List Message → List X) → Reading setup read of
    → (s : Step) (earlier : List Step) → IsHistory setup (s ∷ earlier)
    → (if s.effective then read s.outcome else []) ≡ of (pending (s ∷ earlier))
gives_pending {X} setup read of reading s earlier h = go s.effective
  where
    gave : (o : Option (List ℕ)) → frame_of s.outcome ≡ o → read s.outcome ≡ of (pending_in o s.new)
    gave None f = reading.silent s.outcome f ∙ sym reading.none
    gave (Some frame) f =
        let ready : Ready setup (repl_step setup s.old s.moment).0 (repl_step setup s.old s.moment).1 =
        (step_gives setup s.old s.moment).ready frame (ap frame_of (sym h.0.outcome) ∙ f) in
        let P : ReplState → Outcome → Type 0 = λ x o. Ready setup x o in
        let r : Ready setup s.new s.outcome = subst₂ P (sym h.0.new) (sym h.0.outcome) ready in
        ap read (r.gives ∙ ap (λ (n : ℕ). repl_hand_on setup n (Some r.first)) (sym (first_epoch s.new.epoch s.new.early r.first r.there)))
        ∙ reading.handed r.first
        ∙ ap (λ z. of (option_to_list z)) (sym r.there)

    go : (b : Bool) → (if b then read s.outcome else []) ≡ of (pending_in (if b then frame_of s.outcome else None) s.new)
    go true = gave (frame_of s.outcome) refl
    go false = sym reading.none

-- at every step
effects_are : {X : Type 0} (setup : Setup) (read : Outcome → List X) (of : List Message → List X) → Reading setup read of
    → (steps : List Step) → IsHistory setup steps → GoesOn steps → effects read steps ≡ of (marks steps ++ pending steps)
effects_are setup read of reading [] h on = sym reading.none
effects_are setup read of reading (s ∷ earlier) h on =
    (λ k. effects_are setup read of reading earlier h.1 on.1 k ++ gives_pending setup read of reading s earlier h k)
    ∙ sym (reading.joined (marks earlier ++ pending earlier) (pending (s ∷ earlier)))
    ∙ ap (λ z. of ((marks earlier ++ z) ++ pending (s ∷ earlier))) (sym (marks_pending setup s earlier h on.0))

-- at a boundary
effects_marked : {X : Type 0} (setup : Setup) (read : Outcome → List X) (of : List Message → List X) → Reading setup read of
    → (steps : List Step) → IsHistory setup steps → GoesOn steps → given steps ≡ None → effects read steps ≡ of (marks steps)
effects_marked setup read of reading steps h on none =
    effects_are setup read of reading steps h on
    ∙ ap (λ z. of (marks steps ++ pending_in z (left_by steps))) none
    ∙ ap of (append-nil (marks steps))

words_read : (setup : Setup) → Reading setup words_in (said_of (length setup.changes))
words_read setup = record { silent = silent; handed = handed; none = refl; joined = said_of-append (length setup.changes) }
  where
    silent : (o : Outcome) → frame_of o ≡ None → words_in o ≡ []
    silent (gives.Done reply) e = refl
    silent (gives.Call event arg frame) e = refl
    silent (gives.Later event arg frame) e = refl
    silent (gives.Send to event arg frame) e = refl
    silent (gives.Deliver arg frame) e = absurd (cc)
    silent (gives.Change c arg frame) e = refl

    handed : (x : Message) → words_in (repl_hand_on setup x.epoch (Some x)) ≡ said_of (length setup.changes) (x ∷ [])
    handed x = at (is_change setup x.kind x.value)
      where
        at : (b : Bool)
            → words_in (if b then change setup x.value (up x.epoch ∷ []) (1 ∷ []) else deliver (x.origin ∷ x.number ∷ x.kind ∷ x.value ∷ []) ((if x.kind == 2 then 2 else 0) ∷ []))
            ≡ map said (cond (not b) (x ∷ []) [])
        at true = refl
        at false = refl

abbrev asked_of : Setup → List Message → List (ChangeId × List ℕ)
asked_of setup ms = map (asked_by setup) (turns_of (length setup.changes) ms)

changes_read : (setup : Setup) → Reading setup changes_in (asked_of setup)
changes_read setup = record { silent = silent; handed = handed; none = refl; joined = joined }
  where
    silent : (o : Outcome) → frame_of o ≡ None → changes_in o ≡ []
    silent (gives.Done reply) e = refl
    silent (gives.Call event arg frame) e = refl
    silent (gives.Later event arg frame) e = refl
    silent (gives.Send to event arg frame) e = refl
    silent (gives.Deliver arg frame) e = refl
    silent (gives.Change c arg frame) e = absurd (cc)

    joined : (l m : List Message) → asked_of setup (l ++ m) ≡ asked_of setup l ++ asked_of setup m
    joined l m =
        ap (λ z. map (asked_by setup) z) (filter-append (is_turn (length setup.changes)) l m)
        ∙ map-append (asked_by setup) (turns_of (length setup.changes) l) (turns_of (length setup.changes) m)

    handed : (x : Message) → changes_in (repl_hand_on setup x.epoch (Some x)) ≡ asked_of setup (x ∷ [])
    handed x = at (is_change setup x.kind x.value)
      where
        at : (b : Bool)
            → changes_in (if b then change setup x.value (up x.epoch ∷ []) (1 ∷ []) else deliver (x.origin ∷ x.number ∷ x.kind ∷ x.value ∷ []) ((if x.kind == 2 then 2 else 0) ∷ []))
            ≡ map (asked_by setup) (cond b (x ∷ []) [])
        at true = refl
        at false = refl

pub stream_marked : (setup : Setup) (steps : List Step) → IsHistory setup steps → GoesOn steps → given steps ≡ None
    → stream steps ≡ said_of (length setup.changes) (marks steps)
stream_marked setup = effects_marked setup words_in (said_of (length setup.changes)) (words_read setup)

pub asked_marked : (setup : Setup) (steps : List Step) → IsHistory setup steps → GoesOn steps → given steps ≡ None
    → asked steps ≡ map (asked_by setup) (turns_of (length setup.changes) (marks steps))
asked_marked setup = effects_marked setup changes_in (asked_of setup) (changes_read setup)

-- the change messages that are marked are one of each epoch that was left, in order
none_pass : {A : Type 0} (p : A → Bool) (l : List A) → list_any p l ≡ false → filter p l ≡ []
none_pass p [] e = refl
none_pass p (x ∷ l) e = go (p x) e (none_pass p l)
  where
    go : (b : Bool) → (b || list_any p l) ≡ false → (list_any p l ≡ false → filter p l ≡ []) → cond b (x ∷ filter p l) (filter p l) ≡ []
    go true f ih = absurd (true≢false f)
    go false f ih = ih f

last_alone : {A : Type 0} (p : A → Bool) (l : List A) → (e : EndsOnlyIn p l) → filter p l ≡ e.last ∷ []
last_alone p l e =
    ap (λ z. filter p z) e.is ∙ filter-append p e.front (e.last ∷ [])
    ∙ (λ k. none_pass p e.front e.others k ++ cond (e.passes k) (e.last ∷ []) [])

last_of_epoch : (e : ℕ) (ms front : List Message) (x : Message) → of_epoch e ms ≡ front ++ x ∷ [] → x.epoch ≡ e
last_of_epoch e ms front x h = go (eqb x.epoch e) refl
  where
    all : (l : List Message) → list_any (λ (m : Message). not (m.epoch == e)) (of_epoch e l) ≡ false
    all [] = refl
    all (m ∷ l) = at (eqb m.epoch e) refl (all l)
      where
        at : (b : Bool) → eqb m.epoch e ≡ b → list_any (λ (n : Message). not (n.epoch == e)) (of_epoch e l) ≡ false
            → list_any (λ (n : Message). not (n.epoch == e)) (cond b (m ∷ of_epoch e l) (of_epoch e l)) ≡ false
        at true t ih = ap (λ b. not b || list_any (λ (n : Message). not (n.epoch == e)) (of_epoch e l)) t ∙ ih
        at false t ih = ih

    or_true : (a b : Bool) → b ≡ true → (a || b) ≡ true
    or_true true b t = refl
    or_true false b t = t

    clash : (b : Bool) → b ≡ true → b ≡ false → ⊥
    clash b t f = cc

    go : (b : Bool) → eqb x.epoch e ≡ b → x.epoch ≡ e
    go true t = eqb-true x.epoch e t
    go false f = absurd (clash (list_any (λ (n : Message). not (n.epoch == e)) (front ++ x ∷ []))
        (any_push (λ (n : Message). not (n.epoch == e)) front x ∙ or_true (list_any (λ (n : Message). not (n.epoch == e)) front) (not (eqb x.epoch e)) (ap not f))
        (ap (λ z. list_any (λ (n : Message). not (n.epoch == e)) z) (sym h) ∙ all ms))

last_value_is : (n : ℕ) (l : List Message) (x : Message) → last_value n (l ++ x ∷ []) ≡ x.value
last_value_is n [] x = refl
last_value_is n (m ∷ l) x = last_value_is m.value l x

-- what a reading sees in the change messages, epoch by epoch
turns_below : {X : Type 0} (read : Message → X) (of : ℕ → X) (count epoch : ℕ) (delivered : List Pair) (early begun marks : List Message)
    → Inv count epoch delivered early begun marks
    → ((e : ℕ) (x : Message) → e < epoch → x.epoch ≡ e → x.value ≡ last_value 0 (below (suc e) marks) → read x ≡ of e)
    → (e : ℕ) → e ≤ epoch → map read (turns_of count (below e marks)) ≡ map of (up_to e)
turns_below read of count epoch delivered early begun marks inv same zero le = ap (λ z. map read (turns_of count z)) (below_zero marks)
turns_below {X} read of count epoch delivered early begun marks inv same (suc e) le =
    ap (λ z. map read (turns_of count z)) (inv.core.layers e)
    ∙ ap (λ z. map read z) (filter-append (is_turn count) (below e marks) (of_epoch e marks))
    ∙ map-append read (turns_of count (below e marks)) (turns_of count (of_epoch e marks))
    ∙ (λ k. turns_below read of count epoch delivered early begun marks inv same e (omega arith) k
    ++ map read (last_alone (is_turn count) (of_epoch e marks) ends k))
    ∙ ap (λ (x : X). map of (up_to e) ++ x ∷ []) (same e ends.last (omega arith) (last_of_epoch e marks ends.front ends.last ends.is) value)
    ∙ sym (map-append of (up_to e) (e ∷ []))
  where
    ends : EndsOnlyIn (is_turn count) (of_epoch e marks)
    ends = (inv.core.left e (omega arith)).1

    value : ends.last.value ≡ last_value 0 (below (suc e) marks)
    value =
        sym (last_value_is 0 (below e marks ++ ends.front) ends.last)
        ∙ ap (λ z. last_value 0 z) (append_assoc (below e marks) ends.front (ends.last ∷ []) ∙ ap (λ z. below e marks ++ z) (sym ends.is) ∙ sym (inv.core.layers e))

turns_all : {X : Type 0} (read : Message → X) (of : ℕ → X) (setup : Setup) (steps : List Step) → Holds setup (left_by steps) (begun steps) (marks steps)
    → ((e : ℕ) (x : Message) → e < (left_by steps).epoch → x.epoch ≡ e → x.value ≡ last_value 0 (below (suc e) (marks steps)) → read x ≡ of e)
    → map read (turns_of (length setup.changes) (marks steps)) ≡ map of (up_to (left_by steps).epoch)
turns_all read of setup steps inv same =
    ap (λ z. map read (turns_of count z)) (sym (all_of count epoch (left_by steps).delivered (left_by steps).early (begun steps) (marks steps) inv.core epoch (omega arith)))
    ∙ ap (λ z. map read z) (filter-append (is_turn count) (below epoch (marks steps)) (of_epoch epoch (marks steps)))
    ∙ map-append read (turns_of count (below epoch (marks steps))) (turns_of count (of_epoch epoch (marks steps)))
    ∙ (λ k. turns_below read of count epoch (left_by steps).delivered (left_by steps).early (begun steps) (marks steps) inv same epoch (omega arith) k
    ++ map read (none_pass (is_turn count) (of_epoch epoch (marks steps)) inv.present k))
    ∙ append-nil (map of (up_to epoch))
  where
    count : ℕ
    count = length setup.changes

    epoch : ℕ
    epoch = (left_by steps).epoch

pub turns_in_order : (setup : Setup) (steps : List Step) → IsHistory setup steps → length steps < 2 ^ 64
    → map (λ (m : Message). m.epoch) (turns_of (length setup.changes) (marks steps)) ≡ up_to (left_by steps).epoch
turns_in_order setup steps h l =
    turns_all (λ (m : Message). m.epoch) (λ n. n) setup steps (stands setup steps h l).holds (λ e x le at value. at) ∙ map-id (up_to (left_by steps).epoch)

pub asked_each : (setup : Setup) (steps : List Step) → IsHistory setup steps → GoesOn steps → length steps < 2 ^ 64 → given steps ≡ None
    → asked steps ≡ map (asked_at setup (marks steps)) (up_to (left_by steps).epoch)
asked_each setup steps h on l none =
    asked_marked setup steps h on none
    ∙ turns_all (asked_by setup) (asked_at setup (marks steps)) setup steps all.holds (λ e x le at value.
    (λ k. (change_at_place setup (value k), (ap up at ∙ up_next e (room e (left_by steps).epoch (length steps) (2 ^ 64) le all.epoch l)) k ∷ [])))
  where
    all : Stands setup steps
    all = stands setup steps h l

    room : (i e n k : ℕ) → i < e → e ≤ n → n < k → i < k - 1
    room i e n k a b c = omega arith

-- no two of a stream are alike
pub stream_apart : (setup : Setup) (steps : List Step) → IsHistory setup steps → GoesOn steps → length steps < 2 ^ 64
    → IsApart begin_alike (stream steps)
stream_apart setup steps h on l =
    let P : List (List ℕ) → Type 0 = λ z. IsApart begin_alike z in
    subst P (sym (effects_are setup words_in (said_of (length setup.changes)) (words_read setup) steps h on))
    (apart_map said same_pair begin_alike (λ x y. refl) (filter (not_turn (length setup.changes)) (marks steps ++ pending steps))
    (apart_filter same_pair (not_turn (length setup.changes)) (marks steps ++ pending steps) (go (given steps) refl)))
  where
    inv : Holds setup (left_by steps) (begun steps) (marks steps)
    inv = (stands setup steps h l).holds

    go : (o : Option (List ℕ)) → given steps ≡ o → IsApart same_pair (marks steps ++ pending_in o (left_by steps))
    go None e = let P : List Message → Type 0 = λ z. IsApart same_pair z in subst P (sym (append-nil (marks steps))) inv.core.apart
    go (Some frame) e =
        let g : Giver setup steps frame = giver setup steps h frame e in
        let P : Option Message → Type 0 = λ z. IsApart same_pair (marks steps ++ option_to_list z) in
        subst P (sym g.ready.there) (apart_push same_pair (marks steps) g.ready.first inv.core.apart (sym (inv.core.known g.ready.first) ∙ g.ready.new))

-- ---- what stays
early_none : (e epoch : ℕ) → e ≤ epoch → (early : List Message) → below e (option_to_list (first_of epoch early)) ≡ []
early_none e epoch le early = go (first_of epoch early) refl
  where
    go : (o : Option Message) → first_of epoch early ≡ o → below e (option_to_list o) ≡ []
    go None f = refl
    go (Some x) f =
        ap (λ b. cond b (x ∷ []) []) (le-ltb x.epoch e (at x.epoch (first_epoch epoch early x f)))
      where
        at : (n : ℕ) → n ≡ epoch → e ≤ n
        at n q = omega arith

marks_late : (e : ℕ) (old : ReplState) (moment : Moment) → e ≤ old.epoch → below e (marked_in old moment) ≡ []
marks_late e old (Begin handler arg) le = refl
marks_late e old (Resume handler frame reply) le = go ((handler == 1) && nat_lt (word frame 0) 3)
  where
    go : (b : Bool) → below e (if b then option_to_list (first_of old.epoch old.early) else []) ≡ []
    go true = early_none e old.epoch le old.early
    go false = refl

-- after an epoch was reached, it is never fallen below, and what was marked of earlier ones stays
pub settled : (setup : Setup) (later earlier : List Step) → IsHistory setup (later ++ earlier) → length (later ++ earlier) < 2 ^ 64
    → (e : ℕ) → e ≤ (left_by earlier).epoch
    → (e ≤ (left_by (later ++ earlier)).epoch) × (below e (marks (later ++ earlier)) ≡ below e (marks earlier))
settled setup [] earlier h l e le = (le, refl)
settled setup (s ∷ later) earlier h l e le =
    go (settled setup later earlier h.1 (shorter (length (later ++ earlier)) (2 ^ 64) l) e le)
  where
    before : Stands setup (later ++ earlier)
    before = stands setup (later ++ earlier) h.1 (shorter (length (later ++ earlier)) (2 ^ 64) l)

    room : (o x n k : ℕ) → o ≡ x → x ≤ n → suc n < k → o < k - 1
    room o x n k a b c = omega arith

    up_to : (x o r n : ℕ) → e ≤ x → o ≡ x → o ≤ r → n ≡ r → e ≤ n
    up_to x o r n a b c d = omega arith

    same : s.old.epoch ≡ (left_by (later ++ earlier)).epoch
    same = ap (λ (x : ReplState). x.epoch) h.0.old

    go : (e ≤ (left_by (later ++ earlier)).epoch) × (below e (marks (later ++ earlier)) ≡ below e (marks earlier))
        → (e ≤ s.new.epoch) × (below e (marks (later ++ earlier) ++ marked_in s.old s.moment) ≡ below e (marks earlier))
    go ih = (
      up_to (left_by (later ++ earlier)).epoch s.old.epoch (repl_step setup s.old s.moment).0.epoch s.new.epoch ih.0 same
          ((step_gives setup s.old s.moment).epoch.1 (room s.old.epoch (left_by (later ++ earlier)).epoch (length (later ++ earlier)) (2 ^ 64) same before.epoch l))
          (ap (λ (x : ReplState). x.epoch) h.0.new),
      filter-append (λ (m : Message). nat_lt m.epoch e) (marks (later ++ earlier)) (marked_in s.old s.moment)
          ∙ ap (λ z. below e (marks (later ++ earlier)) ++ z) (marks_late e s.old s.moment (at (left_by (later ++ earlier)).epoch s.old.epoch ih.0 same))
          ∙ append-nil (below e (marks (later ++ earlier)))
          ∙ ih.1,
    )
      where
        at : (x o : ℕ) → e ≤ x → o ≡ x → e ≤ o
        at x o a b = omega arith

-- a stream only grows
pub stream_grows : (later earlier : List Step) → Begins (stream earlier) (stream (later ++ earlier))
stream_grows [] earlier = begins-refl (stream earlier)
stream_grows (s ∷ later) earlier =
    begins-trans (stream earlier) (stream (later ++ earlier)) (stream (s ∷ later ++ earlier)) (stream_grows later earlier)
    (begins-append (stream (later ++ earlier)) (if s.effective then words_in s.outcome else []))
