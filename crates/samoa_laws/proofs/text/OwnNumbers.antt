-- What the replacement layer casts has this node and a number of its own, and what it delivers came up to it.
use Rattle.std.proofs.Common.{◌≡◌, refl, sym, subst, ℕ, ◌<◌, ◌^◌, ◌==◌, arith, Bool, true, false, ◌&&◌, ◌||◌, not, nat_lt, nat_le, if◌then◌else◌, List, [], ◌∷◌, ◌++◌, filter, find, Option, Some, None}
use Rattle.samoa_model.specs.declared.handler.Moment.{Moment}
use Rattle.samoa_model.specs.declared.handler.Outcome.{Outcome}
use Rattle.samoa_model.specs.declared.setup.Setup.{Setup}
use Rattle.samoa_model.specs.declared.script.Script.{Script}
use Rattle.samoa_serial.specs.Lists.{Each}
use Rattle.samoa_serial.proofs.ListLaws.{each_append}
use Rattle.samoa_serial.specs.ReplTable.{first_of, without_first, is_to_come, is_change, repl_hand_on, repl_drain, repl_mark, repl_recast, repl_go_on, repl_cast, repl_deliver, repl_switched, repl_marked, repl_deliver_on, repl_step}
use Rattle.samoa_serial.specs.Rows.{message_at, me, up, word, change, deliver}
use Rattle.samoa_serial.specs.State.{ReplState}
use Rattle.samoa_serial.specs.declared.message.Message.{Message}
use Rattle.samoa_serial.specs.declared.message.Own.{Own}
use Rattle.samoa_laws.specs.replacement.History.{Step, IsHistory, begun, begun_in, left_by, said, stream, words_in}
use Rattle.samoa_laws.specs.streams.Streams.{repl_setup}
use Rattle.std.specs.Option.{IfSome}

-- the event and the words of a call
abbrev pub called : Outcome → ℕ
called (Outcome.Call event arg frame) = event.0
called _ = 0

abbrev pub call_words : Outcome → List ℕ
call_words (Outcome.Call event arg frame) = arg
call_words _ = []

each_filter : {A : Type 0} (P : A → Type 0) (test : A → Bool) (xs : List A) → Each P xs → Each P (filter test xs)
each_filter P test [] all = tt
each_filter P test (x ∷ xs) all = go (test x) (each_filter P test xs all.1)
  where
    go : (b : Bool) → Each P (filter test xs) → Each P (if b then x ∷ filter test xs else filter test xs)
    go true rest = (all.0, rest)
    go false rest = rest

each_find : {A : Type 0} (P : A → Type 0) (test : A → Bool) (xs : List A) → Each P xs → IfSome (find test xs) P
each_find P test [] all = tt
each_find P test (x ∷ xs) all = go (test x) (each_find P test xs all.1)
  where
    go : (b : Bool) → IfSome (find test xs) P → IfSome (if b then Some x else find test xs) P
    go true rest = all.0
    go false rest = rest

-- ---- of messages that came up with this property
module _ (Q : Message → Type 0) (script : Script) (v : ℕ) where
  abbrev setup : Setup
  setup = repl_setup script v

  abbrev IsOwn : Own → Type 0
  IsOwn own = own.number < 2 ^ 64

  pub record Keeps (s : ReplState) : Type 0 where
    pub mine : Each IsOwn s.mine
    pub early : Each Q s.early

  -- delivered words are those of such a message
  pub record IsSaid (words : List ℕ) : Type 0 where
    pub message : Message
    pub is : words ≡ said message
    pub has : Q message

  pub record Gives (o : Outcome) : Type 0 where
    pub cast : called o ≡ 12 → (word (call_words o) 1 ≡ v) × (word (call_words o) 2 < 2 ^ 64)
    pub given : Each IsSaid (words_in o)

  pub record Goes (r : ReplState × Outcome) : Type 0 where
    pub state : Keeps r.0
    pub outcome : Gives r.1

  quiet : (o : Outcome) → called o ≡ 0 → words_in o ≡ [] → Gives o
  quiet o none nothing = record {
    cast = λ twelve. absurd (omega (arith, none, twelve));
    given = subst (λ (ws : List (List ℕ)). Each IsSaid ws) (sym nothing) tt;
  }

  hand_on : (epoch : ℕ) (m : Option Message) → IfSome m Q → Gives (repl_hand_on setup epoch m)
  hand_on epoch None q = quiet (Outcome.Done []) refl refl
  hand_on epoch (Some m) q = go (is_change setup m.kind m.value)
    where
      go : (b : Bool)
          → Gives (if b then change setup m.value (up epoch ∷ []) (1 ∷ []) else deliver (m.origin ∷ m.number ∷ m.kind ∷ m.value ∷ []) ((if m.kind == 2 then 2 else 0) ∷ []))
      go true = quiet _ refl refl
      go false = record { cast = λ twelve. absurd (omega (arith, twelve)); given = (record { message = m; is = refl; has = q }, tt) }

  drain : (s : ReplState) → Keeps s → Goes (repl_drain setup s)
  drain s k =
      let early : Each Q (filter (is_to_come s) s.early) = each_filter Q (is_to_come s) s.early k.early in
      record {
        state = record { mine = k.mine; early = early };
        outcome = hand_on s.epoch (first_of s.epoch (filter (is_to_come s) s.early)) (each_find Q (λ (m : Message). m.epoch == s.epoch) (filter (is_to_come s) s.early) early);
      }

  without : (epoch : ℕ) (ms : List Message) → Each Q ms → Each Q (without_first epoch ms)
  without epoch [] all = tt
  without epoch (m ∷ ms) all = go (m.epoch == epoch) (without epoch ms all.1)
    where
      go : (b : Bool) → Each Q (without_first epoch ms) → Each Q (if b then ms else m ∷ without_first epoch ms)
      go true rest = all.1
      go false rest = (all.0, rest)

  mark : (s : ReplState) (m : Message) → Keeps s → Keeps (repl_mark setup s m)
  mark s m k = record { mine = go (m.origin == me setup); early = without s.epoch s.early k.early }
    where
      go : (b : Bool) → Each IsOwn (if b then filter (λ (own : Own). not (own.number == m.number)) s.mine else s.mine)
      go true = each_filter IsOwn (λ (own : Own). not (own.number == m.number)) s.mine k.mine
      go false = k.mine

  recast : (epoch : ℕ) (m : Option Own) → IfSome m IsOwn → Gives (repl_recast setup epoch m)
  recast epoch None q = quiet (Outcome.Done []) refl refl
  recast epoch (Some own) q = record { cast = λ twelve. (refl, q); given = tt }

  go_on : (s : ReplState) (x : ℕ) → Keeps s → Goes (repl_go_on setup s x)
  go_on s x k = record {
    state = k;
    outcome = recast s.epoch (find (λ (own : Own). nat_lt x own.number) s.mine) (each_find IsOwn (λ (own : Own). nat_lt x own.number) s.mine k.mine);
  }

  rests : (s : ReplState) (ws : List ℕ) → Keeps s → Goes (s, Outcome.Done ws)
  rests s ws k = record { state = k; outcome = quiet (Outcome.Done ws) refl refl }

  up_small : (n : ℕ) → up n < 2 ^ 64
  up_small n = omega arith

  cast : (s : ReplState) (kind value : ℕ) → Keeps s → Goes (repl_cast setup s kind value)
  cast s kind value k = go (nat_lt 2 kind || ((kind == 1) && not (is_change setup kind value)))
    where
      own : Own
      own = record { number = up s.count; kind = kind; value = value }

      out : (b : Bool) → Gives (if b then repl_recast setup s.epoch (Some (record { number = up s.count; kind = kind; value = value })) else Outcome.Done (up s.count ∷ []))
      out true = recast s.epoch (Some own) (up_small s.count)
      out false = quiet (Outcome.Done (up s.count ∷ [])) refl refl

      go : (b : Bool)
          → Goes (if b then (s, Outcome.Done []) else (
            record s { count = up s.count; mine = s.mine ++ record { number = up s.count; kind = kind; value = value } ∷ [] },
            if s.hold == 0 then repl_recast setup s.epoch (Some (record { number = up s.count; kind = kind; value = value })) else Outcome.Done (up s.count ∷ []),
          ))
      go true = rests s [] k
      go false = record {
        state = record { mine = each_append IsOwn s.mine (own ∷ []) k.mine (up_small s.count, tt); early = k.early };
        outcome = out (s.hold == 0);
      }

  came : (s : ReplState) (m : Message) → Q m → Keeps s → Goes (repl_deliver setup s m)
  came s m q k = drain (record s { early = if nat_le s.epoch m.epoch then s.early ++ m ∷ [] else s.early }) (record { mine = k.mine; early = go (nat_le s.epoch m.epoch) })
    where
      go : (b : Bool) → Each Q (if b then s.early ++ m ∷ [] else s.early)
      go true = each_append Q s.early (m ∷ []) k.early (q, tt)
      go false = k.early

  switched : (s : ReplState) (e : ℕ) → Keeps s → Goes (repl_switched setup s e)
  switched s e k = go (e == s.epoch)
    where
      go : (b : Bool) → Goes (if b then repl_go_on setup (record s { hold = 0 }) 0 else (s, Outcome.Done []))
      go true = go_on (record s { hold = 0 }) 0 (record { mine = k.mine; early = k.early })
      go false = rests s [] k

  marked : (s : ReplState) (x : ℕ) (m : Option Message) → Keeps s → Goes (repl_marked setup s x m)
  marked s x None k = rests s [] k
  marked s x (Some m) k = go (x == 0) (x == 1)
    where
      after : Keeps (repl_mark setup s m)
      after = mark s m k

      go : (a b : Bool)
          → Goes (if a then repl_drain setup (repl_mark setup s m) else if b then repl_drain setup (record (repl_mark setup s m) { epoch = up s.epoch; hold = 1 }) else
          (repl_mark setup s m, Outcome.Call (record { 0 = 13 }) (m.value ∷ []) (3 ∷ [])))
      go true b = drain (repl_mark setup s m) after
      go false true = drain (record (repl_mark setup s m) { epoch = up s.epoch; hold = 1 }) (record { mine = after.mine; early = after.early })
      go false false = record { state = after; outcome = record { cast = λ twelve. absurd (omega (arith, twelve)); given = tt } }

  deliver_on : (s : ReplState) (x : ℕ) → Keeps s → Goes (repl_deliver_on setup s x)
  deliver_on s x k = go (nat_lt x 3) (x == 3)
    where
      go : (a b : Bool) → Goes (if a then repl_marked setup s x (first_of s.epoch s.early) else if b then repl_drain setup s else (s, Outcome.Done []))
      go true b = marked s x (first_of s.epoch s.early) k
      go false true = drain s k
      go false false = rests s [] k

  pub steps_keep : (s : ReplState) (m : Moment) → Each Q (begun_in m) → Keeps s → Goes (repl_step setup s m)
  steps_keep s (Moment.Begin i arg) q k = go (i == 0) (i == 1) (i == 2) q
    where
      go : (a b c : Bool) → Each Q (if b then message_at arg 0 ∷ [] else [])
          → Goes (if a then repl_cast setup s (word arg 0) (word arg 1) else if b then repl_deliver setup s (message_at arg 0) else if c then repl_switched setup s (word arg 0) else (s, Outcome.Done []))
      go true b c came_up = cast s (word arg 0) (word arg 1) k
      go false true c came_up = came s (message_at arg 0) came_up.0 k
      go false false true came_up = switched s (word arg 0) k
      go false false false came_up = rests s [] k
  steps_keep s (Moment.Resume i frame reply) q k = go (i == 0) (i == 1) (i == 2)
    where
      go : (a b c : Bool)
          → Goes (if a then (s, Outcome.Done (word frame 0 ∷ [])) else if b then repl_deliver_on setup s (word frame 0) else if c then repl_go_on setup s (word frame 0) else (s, Outcome.Done []))
      go true b c = rests s (word frame 0 ∷ []) k
      go false true c = deliver_on s (word frame 0) k
      go false false true = go_on s (word frame 0) k
      go false false false = rests s [] k

  each_first : {A : Type 0} (P : A → Type 0) (xs ys : List A) → Each P (xs ++ ys) → Each P xs
  each_first P [] ys all = tt
  each_first P (x ∷ xs) ys all = (all.0, each_first P xs ys all.1)

  each_last : {A : Type 0} (P : A → Type 0) (xs ys : List A) → Each P (xs ++ ys) → Each P ys
  each_last P [] ys all = all
  each_last P (x ∷ xs) ys all = each_last P xs ys all.1

  -- a history keeps what its begins have, and its stream is of them
  pub history_keeps : (steps : List Step) → IsHistory setup steps → Each Q (begun steps) → Keeps (left_by steps)
  history_keeps [] h q = record { mine = tt; early = tt }
  history_keeps (s ∷ earlier) h q =
      let before : Keeps s.old = subst (λ (x : ReplState). Keeps x) (sym h.0.old) (history_keeps earlier h.1 (each_first Q (begun earlier) (begun_in s.moment) q)) in
      subst (λ (x : ReplState). Keeps x) (sym h.0.new) (steps_keep s.old s.moment (each_last Q (begun earlier) (begun_in s.moment) q) before).state

  pub stream_said : (steps : List Step) → IsHistory setup steps → Each Q (begun steps) → Each IsSaid (stream steps)
  stream_said [] h q = tt
  stream_said (s ∷ earlier) h q =
      each_append IsSaid (stream earlier) (if s.effective then words_in s.outcome else []) (stream_said earlier h.1 (each_first Q (begun earlier) (begun_in s.moment) q)) (go s.effective)
    where
      before : Keeps s.old
      before = subst (λ (x : ReplState). Keeps x) (sym h.0.old) (history_keeps earlier h.1 (each_first Q (begun earlier) (begun_in s.moment) q))

      out : Gives s.outcome
      out = subst (λ (o : Outcome). Gives o) (sym h.0.outcome) (steps_keep s.old s.moment (each_last Q (begun earlier) (begun_in s.moment) q) before).outcome

      go : (b : Bool) → Each IsSaid (if b then words_in s.outcome else [])
      go true = out.given
      go false = tt
