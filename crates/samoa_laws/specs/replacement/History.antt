-- A history of the box of one node: its steps, the last first.
use Rattle.std.specs.Prelude.{ℕ, zero, suc, ◌<◌, ◌==◌, nat_lt, Bool, true, false, ◌&&◌, if◌then◌else◌, ◌≡◌, List, [], ◌∷◌, ◌++◌, map, filter, not, Option, Some, None, option_to_list, ⊤}
use Rattle.samoa_model.specs.declared.handler.Moment.{Moment}
use Rattle.samoa_model.specs.declared.handler.Moment.TheVariants.{Begin, Resume}
use Rattle.samoa_model.specs.declared.handler.Outcome.{Outcome}
use Rattle.samoa_model.specs.declared.handler.Outcome.TheVariants.{Deliver, Change}
use Rattle.samoa_model.specs.declared.handler.Reply.{Reply}
use Rattle.samoa_model.specs.declared.ids.ChangeId.{ChangeId}
use Rattle.samoa_model.specs.declared.setup.Setup.{Setup}
use Rattle.samoa_serial.specs.declared.message.Message.{Message}
use Rattle.std.specs.List.{list_all}
use Rattle.samoa_laws.specs.lists.Lists.{among, firsts}
use Rattle.samoa_serial.specs.State.{ReplState}
use Rattle.samoa_laws.specs.trace.Boxes as boxes
use Rattle.samoa_laws.specs.trace.Boxes.{BoxStep}
use Rattle.samoa_serial.specs.Rows.{word, up, change_at_place, message_at, has_pair}
use Rattle.samoa_serial.specs.ReplTable.{pair_of, first_of, is_to_come, repl_hand_on, repl_step}

-- a step as it was made
abbrev pub Step : Type 0
Step = BoxStep ReplState

abbrev pub repl_opening : ReplState
repl_opening = record { epoch = 0; hold = 0; count = 0; mine = []; delivered = []; early = [] }

-- the state that the last step left
abbrev pub left_by : List Step → ReplState
left_by steps = boxes.left_by repl_opening steps

-- the frame of a delivery or of a change
abbrev pub frame_of : Outcome → Option (List ℕ)
frame_of (Deliver arg frame) = Some frame
frame_of (Change c arg frame) = Some frame
frame_of _ = None

-- the frame that is to be resumed next: of the last step, where it is an effective delivery or change
abbrev pub given : List Step → Option (List ℕ)
given [] = None
given (s ∷ earlier) = if s.effective then frame_of s.outcome else None

-- of a resume of `deliver` with frame [0], [1] or [2]: the step before gave this frame. All else may come
abbrev pub MayCome : List Step → Moment → Type 0
MayCome earlier (Begin handler arg) = ⊤
MayCome earlier (Resume handler frame reply) = handler ≡ 1 → word frame 0 < 3 → given earlier ≡ Some frame

-- a step by the table, from the state that the step before left
pub record Follows (setup : Setup) (earlier : List Step) (s : Step) : Type 0 where
  pub old : s.old ≡ left_by earlier
  pub new : s.new ≡ (repl_step setup s.old s.moment).0
  pub outcome : s.outcome ≡ (repl_step setup s.old s.moment).1
  pub comes : MayCome earlier s.moment

abbrev pub IsHistory : Setup → List Step → Type 0
IsHistory setup [] = ⊤
IsHistory setup (s ∷ earlier) = Follows setup earlier s × IsHistory setup earlier

-- what is given is resumed at once (for the stream alone)
abbrev pub GoesOn : List Step → Type 0
GoesOn [] = ⊤
GoesOn (s ∷ earlier) =
    ((frame : List ℕ) → given earlier ≡ Some frame → (reply : Reply) × (s.moment ≡ Resume 1 frame reply)) × GoesOn earlier

-- a state that hands a message on: the first that came early of the epoch, after what is old or delivered was removed
pub record Ready (setup : Setup) (s : ReplState) (outcome : Outcome) : Type 0 where
  pub first : Message
  pub there : first_of s.epoch s.early ≡ Some first
  pub new : has_pair s.delivered (pair_of first) ≡ false
  pub clean : list_all (is_to_come s) s.early ≡ true
  pub gives : outcome ≡ repl_hand_on setup s.epoch (Some first)

-- the last step handed x on, and with effect
abbrev pub HandedOn : Setup → List Step → Message → Type 0
HandedOn setup [] x = ⊥
HandedOn setup (s ∷ earlier) x = (s.effective ≡ true) × (s.outcome ≡ repl_hand_on setup s.new.epoch (Some x))

-- ---- what happened, oldest first
-- the messages with which `deliver` began
abbrev pub begun_in : Moment → List Message
begun_in (Begin handler arg) = if handler == 1 then message_at arg 0 ∷ [] else []
begun_in (Resume handler frame reply) = []

abbrev pub begun : List Step → List Message
begun [] = []
begun (s ∷ earlier) = begun earlier ++ begun_in s.moment

-- the messages that were marked
abbrev pub marked_in : ReplState → Moment → List Message
marked_in old (Begin handler arg) = []
marked_in old (Resume handler frame reply) =
    if (handler == 1) && nat_lt (word frame 0) 3 then option_to_list (first_of old.epoch old.early) else []

abbrev pub marks : List Step → List Message
marks [] = []
marks (s ∷ earlier) = marks earlier ++ marked_in s.old s.moment

-- what the effective outcomes were, by a reading of each
abbrev pub effects : {X : Type 0} → (Outcome → List X) → List Step → List X
effects read [] = []
effects read (s ∷ earlier) = effects read earlier ++ (if s.effective then read s.outcome else [])

-- the words that were delivered
abbrev pub words_in : Outcome → List (List ℕ)
words_in (Deliver arg frame) = arg ∷ []
words_in _ = []

abbrev pub stream : List Step → List (List ℕ)
stream steps = effects words_in steps

-- the changes that were asked for, with their arguments
abbrev pub changes_in : Outcome → List (ChangeId × List ℕ)
changes_in (Change c arg frame) = (c, arg) ∷ []
changes_in _ = []

abbrev pub asked : List Step → List (ChangeId × List ℕ)
asked steps = effects changes_in steps

-- ---- messages
abbrev pub of_epoch : ℕ → List Message → List Message
of_epoch e ms = filter (λ (m : Message). m.epoch == e) ms

abbrev pub below : ℕ → List Message → List Message
below e ms = filter (λ (m : Message). nat_lt m.epoch e) ms

-- with the same origin and number
abbrev pub same_pair : Message → Message → Bool
same_pair x y = (x.origin == y.origin) && (x.number == y.number)

-- a change message, where there are so many changes
abbrev pub is_turn : ℕ → Message → Bool
is_turn count m = (m.kind == 1) && nat_lt m.value count

-- of some messages those whose pair stands in no message before and in no earlier one of them
abbrev pub fresh : List Message → List Message → List Message
fresh before ms = firsts same_pair (among same_pair before) ms

-- the words of a message that are delivered, and whether two such begin alike
abbrev pub said : Message → List ℕ
said m = m.origin ∷ m.number ∷ m.kind ∷ m.value ∷ []

abbrev pub begin_alike : List ℕ → List ℕ → Bool
begin_alike x y = (word x 0 == word y 0) && (word x 1 == word y 1)

-- the words of the messages that are no change messages
abbrev pub not_turn : ℕ → Message → Bool
not_turn count m = not (is_turn count m)

abbrev pub said_of : ℕ → List Message → List (List ℕ)
said_of count ms = map said (filter (not_turn count) ms)

-- the change messages, and what each asks for
abbrev pub turns_of : ℕ → List Message → List Message
turns_of count ms = filter (is_turn count) ms

abbrev pub asked_by : Setup → Message → ChangeId × List ℕ
asked_by setup m = (change_at_place setup m.value, up m.epoch ∷ [])

-- the numbers below one, in order; the value of the last message, n where there is none
abbrev pub up_to : ℕ → List ℕ
up_to zero = []
up_to (suc n) = up_to n ++ n ∷ []

abbrev pub last_value : ℕ → List Message → ℕ
last_value n [] = n
last_value n (m ∷ ms) = last_value m.value ms

-- what the last mark of an epoch asks for
abbrev pub asked_at : Setup → List Message → ℕ → ChangeId × List ℕ
asked_at setup ms e = (change_at_place setup (last_value 0 (below (suc e) ms)), suc e ∷ [])

-- the message that the last step handed on, and that is not marked yet
abbrev pub pending_in : Option (List ℕ) → ReplState → List Message
pending_in None s = []
pending_in (Some frame) s = option_to_list (first_of s.epoch s.early)

abbrev pub pending : List Step → List Message
pending steps = pending_in (given steps) (left_by steps)
