-- Two boxes through one change. At node 0 all comes in order, and one delivery is cut before its resume; at node 1 a
-- message of the second epoch comes first.
use Rattle.std.proofs.Common.{◌≡◌, inl, inr, ℕ, ◌^◌, ◌<◌, ◌≤◌, Bool, true, false, List, [], ◌∷◌, length, Some, None, filter, eqb, refl, sym, ap, subst, subst₂, ◌==◌, if◌then◌else◌, lit<, lit≤, arith}
use Rattle.std.proofs.lemmas.Bool.Decides.{nat_tests}
use Rattle.std.specs.Prelude.{⊤}
use Rattle.samoa_model.specs.declared.handler.Moment.{Moment}
use Rattle.samoa_model.specs.declared.handler.Moment.TheVariants.{Begin, Resume}
use Rattle.samoa_model.specs.declared.handler.Reply.{Reply}
use Rattle.samoa_model.specs.declared.setup.Setup.{Setup}
use Rattle.samoa_serial.specs.declared.message.Message.{Message}
use Rattle.samoa_laws.specs.lists.Lists.{Comparable}
use Rattle.samoa_laws.specs.lists.Messages.{first_places}
use Rattle.samoa_serial.specs.Lists.{In}
use Rattle.samoa_serial.specs.ReplTable.{repl_step}
use Rattle.samoa_laws.specs.replacement.History.{Step, left_by, MayCome, Follows, IsHistory, GoesOn, begun, marks, stream, asked}
use Rattle.samoa_laws.specs.replacement.Group.{Up, messages_of, called_by, IsGroup, IsOrdered}
use Rattle.samoa_laws.proofs.replacement.Groups.{streams_comparable}

-- a moment, and whether its outcome was carried out
record Turn : Type 0 where
  moment : Moment
  effective : Bool

abbrev setup : ℕ → Setup
setup v = record { node = record { 0 = v }; nodes = 2; ports = record { 0 = 10 } ∷ record { 0 = 11 } ∷ []; changes = record { 0 = 5 } ∷ []; nums = []; codes = [] }

abbrev step_from : Setup → List Step → Turn → Step
step_from s earlier t = record {
  moment = t.moment;
  old = left_by earlier;
  new = (repl_step s (left_by earlier) t.moment).0;
  outcome = (repl_step s (left_by earlier) t.moment).1;
  effective = t.effective;
}

abbrev run : Setup → List Turn → List Step
run s [] = []
run s (t ∷ ts) = step_from s (run s ts) t ∷ run s ts

abbrev comes : Message → Turn
comes m = record { moment = Begin 1 (m.epoch ∷ m.origin ∷ m.number ∷ m.kind ∷ m.value ∷ []); effective = true }

abbrev goes_on : ℕ → Turn
goes_on k = record { moment = Resume 1 (k ∷ []) (Reply.Words []); effective = true }

abbrev first : Message
first = record { epoch = 0; origin = 0; number = 1; kind = 0; value = 70 }

abbrev second : Message
second = record { epoch = 0; origin = 1; number = 1; kind = 1; value = 0 }

abbrev third : Message
third = record { epoch = 1; origin = 0; number = 2; kind = 0; value = 71 }

-- node 0: the first is delivered, but its first delivery is cut; the change is marked
abbrev one : List Turn
one = goes_on 1 ∷ comes second ∷ goes_on 0 ∷ comes first ∷ record (comes first) { effective = false } ∷ []

-- node 1: the third comes first
abbrev two : List Turn
two = goes_on 0 ∷ goes_on 1 ∷ comes second ∷ goes_on 0 ∷ comes first ∷ comes third ∷ []

abbrev node_0 : List Step
node_0 = run (setup 0) one

abbrev node_1 : List Step
node_1 = run (setup 1) two

marked : (marks node_0 ≡ first ∷ second ∷ []) × (marks node_1 ≡ first ∷ second ∷ third ∷ [])
marked = (refl, refl)

began : (begun node_0 ≡ first ∷ first ∷ second ∷ []) × (begun node_1 ≡ third ∷ first ∷ second ∷ [])
began = (refl, refl)

-- what each delivered, and what node 0 asked for
delivered : (stream node_0 ≡ (0 ∷ 1 ∷ 0 ∷ 70 ∷ []) ∷ []) × (stream node_1 ≡ (0 ∷ 1 ∷ 0 ∷ 70 ∷ []) ∷ (0 ∷ 2 ∷ 0 ∷ 71 ∷ []) ∷ [])
    × (asked node_0 ≡ (record { 0 = 5 }, 1 ∷ []) ∷ [])
delivered = (refl, refl, refl)

follows : (s : Setup) (earlier : List Step) (t : Turn) → MayCome earlier t.moment → Follows s earlier (step_from s earlier t)
follows s earlier t c = record { old = refl; new = refl; outcome = refl; comes = c }

-- every turn may come, and what is given is resumed
abbrev AllCome : Setup → List Turn → Type 0
AllCome s [] = ⊤
AllCome s (t ∷ ts) = MayCome (run s ts) t.moment × AllCome s ts

is_history : (s : Setup) (ts : List Turn) → AllCome s ts → IsHistory s (run s ts)
is_history s [] h = tt
is_history s (t ∷ ts) h = (follows s (run s ts) t h.0, is_history s ts h.1)

history_0 : IsHistory (setup 0) node_0
history_0 = is_history (setup 0) one ((λ e l. refl), (tt, ((λ e l. refl), (tt, (tt, tt)))))

history_1 : IsHistory (setup 1) node_1
history_1 = is_history (setup 1) two ((λ e l. refl), ((λ e l. refl), (tt, ((λ e l. refl), (tt, (tt, tt))))))

nothing : (frame : List ℕ) (m : Moment) → None ≡ Some frame → (reply : Reply) × (m ≡ Resume 1 frame reply)
nothing frame m e = absurd (cc)

resumes : (k : ℕ) (frame : List ℕ) → Some (k ∷ []) ≡ Some frame → (reply : Reply) × (Resume 1 (k ∷ []) (Reply.Words []) ≡ Resume 1 frame reply)
resumes k frame e = (Reply.Words [], ap (λ f. Resume 1 f (Reply.Words [])) (inner (k ∷ []) frame e))
  where
    inner : (a b : List ℕ) → Some a ≡ Some b → a ≡ b
    inner a b h = cc

on_0 : GoesOn node_0
on_0 = (resumes 1, ((λ frame e. nothing frame (comes second).moment e), (resumes 0, ((λ frame e. nothing frame (comes first).moment e), ((λ frame e. nothing frame (comes first).moment e), tt)))))

on_1 : GoesOn node_1
on_1 = (resumes 0, (resumes 1, ((λ frame e. nothing frame (comes second).moment e), (resumes 0, ((λ frame e. nothing frame (comes first).moment e), ((λ frame e. nothing frame (comes third).moment e), tt))))))

-- protocol 1 carries the first epoch, and protocol 0 the second
abbrev protocol : ℕ → List Message → ℕ
protocol e ms = if e == 0 then 1 else 0

abbrev up_by : ℕ → Message → Up
up_by p m = record { by = p; message = m }

abbrev steps : ℕ → List Step
steps v = if v == 0 then node_0 else node_1

abbrev ups_at : Bool → List Up
ups_at true = up_by 1 first ∷ up_by 1 first ∷ up_by 1 second ∷ []
ups_at false = up_by 0 third ∷ up_by 1 first ∷ up_by 1 second ∷ []

abbrev ups : ℕ → List Up
ups v = ups_at (v == 0)

-- every node but 0 is as node 1
abbrev setups : ℕ → Setup
setups v = if v == 0 then setup 0 else setup 1

group : IsGroup 1 setups steps
group = record { changes = λ v. changes (v == 0); history = λ v. history (v == 0); short = λ v. short (v == 0) }
  where
    changes : (b : Bool) → length (if b then setup 0 else setup 1).changes ≡ 1
    changes true = refl
    changes false = refl

    history : (b : Bool) → IsHistory (if b then setup 0 else setup 1) (if b then node_0 else node_1)
    history true = history_0
    history false = history_1

    short : (b : Bool) → length (if b then node_0 else node_1) < 2 ^ 64
    short true = lit< tt
    short false = lit< tt

abbrev IsFine : Up → Type 0
IsFine c = (c.message.epoch ≤ 1) × (c.by ≡ (if c.message.epoch == 0 then 1 else 0))

abbrev AllFine : List Up → Type 0
AllFine [] = ⊤
AllFine (c ∷ cs) = IsFine c × AllFine cs

in_fine : (cs : List Up) → AllFine cs → (c : Up) → In c cs → IsFine c
in_fine [] a c h = absurd h
in_fine (d ∷ cs) a c (inl e) = let P : Up → Type 0 = λ x. IsFine x in subst P (sym e) a.0
in_fine (d ∷ cs) a c (inr h) = in_fine cs a.1 c h

zero_fine : (m : Message) → m.epoch ≡ 0 → IsFine (up_by 1 m)
zero_fine m e = (omega arith, ap (λ n. if n == 0 then 1 else 0) (sym e))

all_fine : (b : Bool) → AllFine (ups_at b)
all_fine true = (zero_fine first refl, (zero_fine first refl, (zero_fine second refl, tt)))
all_fine false = ((lit≤ tt, refl), (zero_fine first refl, (zero_fine second refl, tt)))

-- the first places of what protocol 1 called up, where a, and of what protocol 0 did, where z
abbrev firsts_at : Bool → Bool → Bool → List Message
firsts_at a z b = first_places (messages_of (filter (λ (c : Up). if c.by == 1 then a else z) (ups_at b)))

not_both : (p : ℕ) → eqb 1 p ≡ true → eqb 0 p ≡ true → ⊥
not_both p e f = grind (arith, nat_tests)

all_order : (p : ℕ) (a z b d : Bool) → eqb 1 p ≡ a → eqb 0 p ≡ z → Comparable (firsts_at a z b) (firsts_at a z d)
all_order p true true b d e f = absurd (not_both p e f)
all_order p true false true true e f = inl (record { rest = []; is = refl })
all_order p true false true false e f = inl (record { rest = []; is = refl })
all_order p true false false true e f = inl (record { rest = []; is = refl })
all_order p true false false false e f = inl (record { rest = []; is = refl })
all_order p false true true d e f = inl (record { rest = firsts_at false true d; is = refl })
all_order p false true false true e f = inr (record { rest = third ∷ []; is = refl })
all_order p false true false false e f = inl (record { rest = []; is = refl })
all_order p false false true d e f = inl (record { rest = firsts_at false false d; is = refl })
all_order p false false false d e f = inl (record { rest = firsts_at false false d; is = refl })

ordered : IsOrdered steps ups protocol
ordered = record {
  begun = λ v. began (v == 0);
  called = λ v c h l. (1, (in_fine (ups v) (all_fine (v == 0)) c h).0, (in_fine (ups v) (all_fine (v == 0)) c h).1);
  order = λ p v u. order p (v == 0) (u == 0);
}
  where
    began : (b : Bool) → messages_of (ups_at b) ≡ begun (if b then node_0 else node_1)
    began true = refl
    began false = refl

    tested : (p : ℕ) (b : Bool) → firsts_at (eqb 1 p) (eqb 0 p) b ≡ first_places (called_by p (ups_at b))
    tested p true = refl
    tested p false = refl

    order : (p : ℕ) (b d : Bool) → Comparable (first_places (called_by p (ups_at b))) (first_places (called_by p (ups_at d)))
    order p b d =
        let P : List Message → List Message → Type 0 = λ l m. Comparable l m in
        subst₂ P (tested p b) (tested p d) (all_order p (eqb 1 p) (eqb 0 p) b d refl refl)

one_begins_other : Comparable (stream node_0) (stream node_1)
one_begins_other = streams_comparable 1 setups steps ups protocol group ordered 0 1 on_0 on_1 refl refl
