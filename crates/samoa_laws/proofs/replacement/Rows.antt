-- Each row of the table: what it hands on, and what it keeps.
use Rattle.std.proofs.Common.{ℕ, suc, ◌+◌, ◌-◌, ◌^◌, min, ◌<◌, ◌≤◌, ◌==◌, nat_lt, nat_le, eqb, Bool, true, false, not, cond, ◌||◌, ◌&&◌, ◌≡◌, List, [], ◌∷◌, ◌++◌, length, filter, find, option_to_list, Option, Some, None, refl, sym, ap, ◌∙◌, subst, subst₂, if◌then◌else◌, append-nil, arith, eqb-true, eq-eqb, ltb-true}
use Rattle.std.specs.List.{list_all, list_any}
use Rattle.std.proofs.lemmas.Bool.{cond_both}
use Rattle.std.proofs.lemmas.Bool.Decides.{nat_tests}
use Rattle.samoa_model.specs.declared.handler.Moment.{Moment}
use Rattle.samoa_model.specs.declared.handler.Moment.TheVariants.{Begin, Resume}
use Rattle.samoa_model.specs.declared.handler.Reply.{Reply}
use Rattle.samoa_model.specs.declared.handler.Outcome.{Outcome}
use Rattle.samoa_model.specs.declared.setup.Setup.{Setup}
use Rattle.samoa_serial.specs.declared.message.Message.{Message}
use Rattle.samoa_serial.specs.declared.message.Own.{Own}
use Rattle.samoa_serial.specs.State.{ReplState}
use Rattle.samoa_serial.specs.Rows.{word, up, done, call, message_at, has_pair}
use Rattle.samoa_serial.specs.ReplTable.{pair_of, first_of, is_to_come, is_change, repl_hand_on, repl_drain, repl_mark, repl_recast, repl_go_on, repl_cast, repl_deliver, repl_switched, repl_marked, repl_deliver_on, repl_step}
use Rattle.samoa_laws.specs.replacement.History.{frame_of, Ready, begun_in, marked_in, of_epoch, is_turn}
use Rattle.samoa_laws.proofs.lists.Lists.{any_push, filter_push_in}
use Rattle.samoa_laws.proofs.replacement.Inv.{Core, Inv, begins, cleans, takes, ends, first_epoch}

-- ---- what a row hands on
-- an epoch after another: at most one more, and no less while the type has room
abbrev pub Near : ℕ → ℕ → Type 0
Near n k = (k ≤ suc n) × (n < 2 ^ 64 - 1 → n ≤ k)

stays : (n : ℕ) → Near n n
stays n = (omega arith, λ l. omega arith)

up_near : (n : ℕ) → Near n (up n)
up_near n = (go n (2 ^ 64 - 1), λ l. rises n (2 ^ 64 - 1) l)
  where
    go : (n k : ℕ) → min (n + 1) k ≤ suc n
    go n k = omega arith

    rises : (n k : ℕ) → n < k → n ≤ min (n + 1) k
    rises n k l = omega arith

-- a step from old: its epoch is the same or the next, and what it delivers or changes is the first message of its new state
pub record Gives (setup : Setup) (old : ReplState) (r : ReplState × Outcome) : Type 0 where
  pub epoch : Near old.epoch r.0.epoch
  pub ready : (frame : List ℕ) → frame_of r.1 ≡ Some frame → Ready setup r.0 r.1

found_passes : {A : Type 0} (p q : A → Bool) (l : List A) (x : A) → find p (filter q l) ≡ Some x → q x ≡ true
found_passes p q [] x e = absurd (cc)
found_passes {A} p q (y ∷ l) x e = go (q y) refl e (found_passes p q l x)
  where
    same : (a b : A) → Some a ≡ Some b → a ≡ b
    same a b h = cc

    at : (c : Bool) → q y ≡ true → cond c (Some y) (find p (filter q l)) ≡ Some x → (find p (filter q l) ≡ Some x → q x ≡ true) → q x ≡ true
    at true t h ih = ap q (sym (same y x h)) ∙ t
    at false t h ih = ih h

    go : (b : Bool) → q y ≡ b → find p (cond b (y ∷ filter q l) (filter q l)) ≡ Some x → (find p (filter q l) ≡ Some x → q x ≡ true) → q x ≡ true
    go true t h ih = at (p y) t h ih
    go false t h ih = ih h

all_pass : {A : Type 0} (q : A → Bool) (l : List A) → list_all q (filter q l) ≡ true
all_pass q [] = refl
all_pass q (x ∷ l) = go (q x) refl (all_pass q l)
  where
    go : (b : Bool) → q x ≡ b → list_all q (filter q l) ≡ true → list_all q (cond b (x ∷ filter q l) (filter q l)) ≡ true
    go true t ih = ap (λ b. b && list_all q (filter q l)) t ∙ ih
    go false t ih = ih

not_known : (a b : Bool) → not (a || b) ≡ true → b ≡ false
not_known true b e = absurd (cc)
not_known false true e = absurd (cc)
not_known false false e = refl

drain_gives : (setup : Setup) (old s : ReplState) → Near old.epoch s.epoch → Gives setup old (repl_drain setup s)
drain_gives setup old s le = record { epoch = le; ready = λ frame e. go (first_of s.epoch (filter (is_to_come s) s.early)) refl frame e }
  where
    go : (o : Option Message) → first_of s.epoch (filter (is_to_come s) s.early) ≡ o → (frame : List ℕ) → frame_of (repl_hand_on setup s.epoch o) ≡ Some frame
        → Ready setup (repl_drain setup s).0 (repl_drain setup s).1
    go None f frame e = absurd (cc)
    go (Some x) f frame e = record {
      first = x;
      there = f;
      new = not_known (nat_lt x.epoch s.epoch) (has_pair s.delivered (pair_of x)) (found_passes (λ (m : Message). m.epoch == s.epoch) (is_to_come s) s.early x f);
      clean = all_pass (is_to_come s) s.early;
      gives = ap (λ z. repl_hand_on setup s.epoch z) f;
    }

done_gives : (setup : Setup) (old s : ReplState) (words : List ℕ) → Near old.epoch s.epoch → Gives setup old (s, done words)
done_gives setup old s words le = record { epoch = le; ready = λ frame e. absurd (cc) }

recast_gives : (setup : Setup) (old s : ReplState) (epoch : ℕ) (own : Option Own) → Near old.epoch s.epoch → Gives setup old (s, repl_recast setup epoch own)
recast_gives setup old s epoch None le = done_gives setup old s [] le
recast_gives setup old s epoch (Some own) le = record { epoch = le; ready = λ frame e. absurd (cc) }

go_on_gives : (setup : Setup) (old s : ReplState) (x : ℕ) → Near old.epoch s.epoch → Gives setup old (repl_go_on setup s x)
go_on_gives setup old s x le = recast_gives setup old s s.epoch (find (λ (own : Own). nat_lt x own.number) s.mine) le

cast_gives : (setup : Setup) (s : ReplState) (kind value : ℕ) → Gives setup s (repl_cast setup s kind value)
cast_gives setup s kind value =
    cond_both (nat_lt 2 kind || ((kind == 1) && not (is_change setup kind value))) (s, done []) held (Gives setup s)
    (λ t. done_gives setup s s [] (stays s.epoch)) (λ f. at (eqb s.hold 0))
  where
    own : Own
    own = record { number = up s.count; kind = kind; value = value }

    new : ReplState
    new = record s { count = up s.count; mine = s.mine ++ own ∷ [] }

    held : ReplState × Outcome
    held = (new, if s.hold == 0 then repl_recast setup s.epoch (Some own) else done (own.number ∷ []))

    at : (b : Bool) → Gives setup s (new, if b then repl_recast setup s.epoch (Some own) else done (own.number ∷ []))
    at true = recast_gives setup s new s.epoch (Some own) (stays s.epoch)
    at false = done_gives setup s new (own.number ∷ []) (stays s.epoch)

marked_gives : (setup : Setup) (s : ReplState) (x : ℕ) (o : Option Message) → Gives setup s (repl_marked setup s x o)
marked_gives setup s x None = done_gives setup s s [] (stays s.epoch)
marked_gives setup s x (Some m) =
    cond_both (eqb x 0) (repl_drain setup marked) other (Gives setup s) (λ t. drain_gives setup s marked (stays s.epoch)) (λ f.
    cond_both (eqb x 1) (repl_drain setup next) (marked, call setup 1 (m.value ∷ []) (3 ∷ [])) (Gives setup s) (λ t. drain_gives setup s next (up_near s.epoch))
    (λ g. record { epoch = stays s.epoch; ready = λ frame e. absurd (cc) }))
  where
    marked : ReplState
    marked = repl_mark setup s m

    next : ReplState
    next = record marked { epoch = up s.epoch; hold = 1 }

    other : ReplState × Outcome
    other = if x == 1 then repl_drain setup next else (marked, call setup 1 (m.value ∷ []) (3 ∷ []))

deliver_on_gives : (setup : Setup) (s : ReplState) (x : ℕ) → Gives setup s (repl_deliver_on setup s x)
deliver_on_gives setup s x =
    cond_both (nat_lt x 3) (repl_marked setup s x (first_of s.epoch s.early)) (if x == 3 then repl_drain setup s else (s, done [])) (Gives setup s)
    (λ t. marked_gives setup s x (first_of s.epoch s.early))
    (λ f. cond_both (eqb x 3) (repl_drain setup s) (s, done []) (Gives setup s) (λ t. drain_gives setup s s (stays s.epoch)) (λ g. done_gives setup s s [] (stays s.epoch)))

-- every step
pub step_gives : (setup : Setup) (s : ReplState) (moment : Moment) → Gives setup s (repl_step setup s moment)
step_gives setup s (Begin handler arg) = go (eqb handler 0) (eqb handler 1) (eqb handler 2)
  where
    begins_in : ReplState
    begins_in = record s { early = if nat_le s.epoch (message_at arg 0).epoch then s.early ++ message_at arg 0 ∷ [] else s.early }

    go : (a b c : Bool) → Gives setup s
        (if a then repl_cast setup s (word arg 0) (word arg 1) else if b then repl_deliver setup s (message_at arg 0) else if c then repl_switched setup s (word arg 0) else (s, done []))
    go true b c = cast_gives setup s (word arg 0) (word arg 1)
    go false true c = drain_gives setup s begins_in (stays s.epoch)
    go false false true =
        cond_both (eqb (word arg 0) s.epoch) (repl_go_on setup (record s { hold = 0 }) 0) (s, done []) (Gives setup s)
        (λ t. go_on_gives setup s (record s { hold = 0 }) 0 (stays s.epoch)) (λ f. done_gives setup s s [] (stays s.epoch))
    go false false false = done_gives setup s s [] (stays s.epoch)
step_gives setup s (Resume handler frame reply) = go (eqb handler 0) (eqb handler 1) (eqb handler 2)
  where
    go : (a b c : Bool) → Gives setup s
        (if a then (s, done (word frame 0 ∷ [])) else if b then repl_deliver_on setup s (word frame 0) else if c then repl_go_on setup s (word frame 0) else (s, done []))
    go true b c = done_gives setup s s (word frame 0 ∷ []) (stays s.epoch)
    go false true c = deliver_on_gives setup s (word frame 0)
    go false false true = go_on_gives setup s s (word frame 0) (stays s.epoch)
    go false false false = done_gives setup s s [] (stays s.epoch)

-- ---- what a row keeps
-- of this state, after these messages began and those were marked
abbrev pub Holds : Setup → ReplState → List Message → List Message → Type 0
Holds setup s begun marks = Inv (length setup.changes) s.epoch s.delivered s.early begun marks

-- the first word of the frame with which a message is handed on
abbrev pub frame_number : Setup → Message → ℕ
frame_number setup m = if is_change setup m.kind m.value then 1 else if m.kind == 2 then 2 else 0

-- a resume with this first word marks x
pub record Marks (setup : Setup) (s : ReplState) (n : ℕ) (x : Message) : Type 0 where
  pub there : first_of s.epoch s.early ≡ Some x
  pub new : has_pair s.delivered (pair_of x) ≡ false
  pub number : n ≡ frame_number setup x

none_more : (setup : Setup) (s : ReplState) (begun marks : List Message) → Holds setup s begun marks → Holds setup s (begun ++ []) (marks ++ [])
none_more setup s begun marks h =
    let P : List Message → List Message → Type 0 = λ b m. Holds setup s b m in
    subst₂ P (sym (append-nil begun)) (sym (append-nil marks)) h

drain_keeps : (setup : Setup) (s : ReplState) (begun marks : List Message) → Holds setup s begun marks → Holds setup (repl_drain setup s).0 begun marks
drain_keeps setup s begun marks h = record {
  core = cleans (length setup.changes) s.epoch s.delivered s.early begun marks h.core;
  present = h.present;
}

deliver_keeps : (setup : Setup) (s : ReplState) (begun marks : List Message) (x : Message) → Holds setup s begun marks
    → Holds setup (repl_deliver setup s x).0 (begun ++ x ∷ []) marks
deliver_keeps setup s begun marks x h =
    drain_keeps setup (record s { early = if nat_le s.epoch x.epoch then s.early ++ x ∷ [] else s.early }) (begun ++ x ∷ []) marks
    (record { core = begins (length setup.changes) s.epoch s.delivered s.early begun marks x h.core; present = h.present })

pub up_next : (n : ℕ) → n < 2 ^ 64 - 1 → up n ≡ suc n
up_next n l = go n (2 ^ 64 - 1) l
  where
    go : (n k : ℕ) → n < k → min (n + 1) k ≡ suc n
    go n k l = omega arith

mark_keeps : (setup : Setup) (s : ReplState) (begun marks : List Message) (n : ℕ) (x : Message) → Holds setup s begun marks → Marks setup s n x
    → s.epoch < 2 ^ 64 - 1 → Holds setup (repl_marked setup s n (Some x)).0 begun (marks ++ x ∷ [])
mark_keeps setup s begun marks n x h m l =
    let P : ℕ → Type 0 = λ k. Holds setup (repl_marked setup s k (Some x)).0 begun more in
    subst P (sym m.number) (change (is_change setup x.kind x.value) (eqb x.kind 2) refl)
  where
    more : List Message
    more = marks ++ x ∷ []

    marked : ReplState
    marked = repl_mark setup s x

    core : Core (length setup.changes) s.epoch marked.delivered marked.early begun more
    core = takes (length setup.changes) s.epoch s.delivered s.early begun marks x m.there (sym (h.core.known x) ∙ m.new) h.core

    now : of_epoch s.epoch more ≡ of_epoch s.epoch marks ++ x ∷ []
    now = filter_push_in (λ (y : Message). y.epoch == s.epoch) marks x (eq-eqb x.epoch s.epoch (first_epoch s.epoch s.early x m.there))

    stays : is_change setup x.kind x.value ≡ false → Holds setup marked begun more
    stays f = record {
      core = core;
      present =
          ap (λ z. list_any (is_turn (length setup.changes)) z) now
          ∙ any_push (is_turn (length setup.changes)) (of_epoch s.epoch marks) x
          ∙ (λ k. h.present k || f k);
    }

    next : is_change setup x.kind x.value ≡ true → Holds setup (record marked { epoch = up s.epoch; hold = 1 }) begun more
    next t =
        let P : ℕ → Type 0 = λ e. Inv (length setup.changes) e marked.delivered marked.early begun more in
        subst P (sym (up_next s.epoch l))
        (ends (length setup.changes) s.epoch marked.delivered marked.early begun more
        (record { front = of_epoch s.epoch marks; last = x; is = now; passes = t; others = h.present }) core)

    change : (a b : Bool) → is_change setup x.kind x.value ≡ a → Holds setup (repl_marked setup s (if a then 1 else if b then 2 else 0) (Some x)).0 begun more
    change true b t = drain_keeps setup (record marked { epoch = up s.epoch; hold = 1 }) begun more (next t)
    change false true f = stays f
    change false false f = drain_keeps setup marked begun more (stays f)

cast_keeps : (setup : Setup) (s : ReplState) (kind value : ℕ) (begun marks : List Message) → Holds setup s begun marks
    → Holds setup (repl_cast setup s kind value).0 begun marks
cast_keeps setup s kind value begun marks h =
    cond_both (nat_lt 2 kind || ((kind == 1) && not (is_change setup kind value))) (s, done []) held
    (λ (r : ReplState × Outcome). Holds setup r.0 begun marks) (λ t. h) (λ f. h)
  where
    own : Own
    own = record { number = up s.count; kind = kind; value = value }

    held : ReplState × Outcome
    held =
        (record s { count = up s.count; mine = s.mine ++ own ∷ [] }, if s.hold == 0 then repl_recast setup s.epoch (Some own) else done (own.number ∷ []))

-- a resume of `deliver`
deliver_on_keeps : (setup : Setup) (s : ReplState) (begun marks : List Message) (n : ℕ) → Holds setup s begun marks
    → (n < 3 → (x : Message) × Marks setup s n x) → s.epoch < 2 ^ 64 - 1
    → Holds setup (repl_deliver_on setup s n).0 (begun ++ []) (marks ++ (if nat_lt n 3 then option_to_list (first_of s.epoch s.early) else []))
deliver_on_keeps setup s begun marks n h first l = go (nat_lt n 3) refl
  where
    go : (b : Bool) → nat_lt n 3 ≡ b
        → Holds setup (if b then repl_marked setup s n (first_of s.epoch s.early) else if n == 3 then repl_drain setup s else (s, done [])).0
        (begun ++ []) (marks ++ (if b then option_to_list (first_of s.epoch s.early) else []))
    go true t =
        let m : (x : Message) × Marks setup s n x = first (ltb-true n 3 t) in
        let P : Option Message → Type 0 = λ o. Holds setup (repl_marked setup s n o).0 (begun ++ []) (marks ++ option_to_list o) in
        let Q : List Message → Type 0 = λ b. Holds setup (repl_marked setup s n (Some m.0)).0 b (marks ++ m.0 ∷ []) in
        subst P (sym m.1.there) (subst Q (sym (append-nil begun)) (mark_keeps setup s begun marks n m.0 h m.1 l))
    go false f =
        cond_both (eqb n 3) (repl_drain setup s) (s, done []) (λ (r : ReplState × Outcome). Holds setup r.0 (begun ++ []) (marks ++ []))
        (λ t. drain_keeps setup s (begun ++ []) (marks ++ []) (none_more setup s begun marks h)) (λ g. none_more setup s begun marks h)

two_numbers_apart : (h : ℕ) → eqb h 0 ≡ true → eqb h 1 ≡ true → ⊥
two_numbers_apart h a b = grind (arith, nat_tests)

-- every step
pub step_keeps : (setup : Setup) (s : ReplState) (begun marks : List Message) (moment : Moment) → Holds setup s begun marks
    → ((frame : List ℕ) (reply : Reply) → moment ≡ Resume 1 frame reply → word frame 0 < 3 → (x : Message) × Marks setup s (word frame 0) x)
    → s.epoch < 2 ^ 64 - 1
    → Holds setup (repl_step setup s moment).0 (begun ++ begun_in moment) (marks ++ marked_in s moment)
step_keeps setup s begun marks (Begin handler arg) h first l = go (eqb handler 0) (eqb handler 1) (eqb handler 2) refl refl
  where
    go : (a b c : Bool) → eqb handler 0 ≡ a → eqb handler 1 ≡ b
        → Holds setup
        (if a then repl_cast setup s (word arg 0) (word arg 1) else if b then repl_deliver setup s (message_at arg 0) else if c then repl_switched setup s (word arg 0) else (s, done [])).0
        (begun ++ (if b then message_at arg 0 ∷ [] else [])) (marks ++ [])
    go true true c e f = absurd (two_numbers_apart handler e f)
    go true false c e f = cast_keeps setup s (word arg 0) (word arg 1) (begun ++ []) (marks ++ []) (none_more setup s begun marks h)
    go false true c e f =
        let P : List Message → Type 0 = λ m. Holds setup (repl_deliver setup s (message_at arg 0)).0 (begun ++ message_at arg 0 ∷ []) m in
        subst P (sym (append-nil marks)) (deliver_keeps setup s begun marks (message_at arg 0) h)
    go false false true e f =
        cond_both (eqb (word arg 0) s.epoch) (repl_go_on setup (record s { hold = 0 }) 0) (s, done [])
        (λ (r : ReplState × Outcome). Holds setup r.0 (begun ++ []) (marks ++ []))
        (λ t. none_more setup s begun marks h) (λ g. none_more setup s begun marks h)
    go false false false e f = none_more setup s begun marks h
step_keeps setup s begun marks (Resume handler frame reply) h first l = go (eqb handler 0) (eqb handler 1) (eqb handler 2) refl refl
  where
    at_one : eqb handler 1 ≡ true → Resume handler frame reply ≡ Resume 1 frame reply
    at_one e = ap (λ (n : ℕ). Resume n frame reply) (eqb-true handler 1 e)

    go : (a b c : Bool) → eqb handler 0 ≡ a → eqb handler 1 ≡ b
        → Holds setup
        (if a then (s, done (word frame 0 ∷ [])) else if b then repl_deliver_on setup s (word frame 0) else if c then repl_go_on setup s (word frame 0) else (s, done [])).0
        (begun ++ []) (marks ++ (if b && nat_lt (word frame 0) 3 then option_to_list (first_of s.epoch s.early) else []))
    go true true c e f = absurd (two_numbers_apart handler e f)
    go true false c e f = none_more setup s begun marks h
    go false true c e f = deliver_on_keeps setup s begun marks (word frame 0) h (λ lt. first frame reply (at_one f) lt) l
    go false false true e f = none_more setup s begun marks h
    go false false false e f = none_more setup s begun marks h
