-- What came up at a node, as pairs and as calls: the broadcasts' laws speak of pairs, the replacement layer's of calls.
use Rattle.std.proofs.Common.{◌≡◌, ◌≢◌, ◌⊎◌, ℕ, inl, inr, refl, sym, ap, subst, ◌∙◌, Bool, true, false, ◌==◌, if◌then◌else◌, List, [], ◌∷◌, ◌++◌, map, filter, cond, Some, None}
use Rattle.std.proofs.lemmas.Bool.Decides.{eqb_tells}
use Rattle.std.proofs.lemmas.List.{map-append}
use Rattle.samoa_model.specs.declared.handler.Moment.{Moment}
use Rattle.samoa_serial.specs.Rows.{message_at}
use Rattle.samoa_serial.specs.declared.message.Message.{Message}
use Rattle.samoa_serial.specs.Lists as laws
use Rattle.samoa_laws.specs.trace.Trace.{HandlerStep}
use Rattle.samoa_laws.specs.lists.Lists.{Comparable}
use Rattle.samoa_laws.specs.lists.Messages.{first_places}
use Rattle.samoa_serial.specs.Lists.{In}
use Rattle.samoa_laws.specs.replacement.Group.{Up, called_by, messages_of}
use Rattle.samoa_laws.specs.broadcasts.Begun.{begun, begun_by, begun_with, delivered_by, with_caller}
use Rattle.samoa_laws.specs.streams.Ordered.{caller, up_in, ups_at}
use Rattle.samoa_laws.specs.streams.Streams.{is_repl}

abbrev up_of : ℕ × Message → Up
up_of e = record { by = e.0; message = e.1 }

one_up : (p : ℕ) (b : Bool) (m : Moment) → map up_of (with_caller p (if b then begun_with m else None)) ≡ (if b then up_in p m else [])
one_up p false m = refl
one_up p true (Moment.Begin i arg) = go (i == 1)
  where
    go : (b : Bool) → map up_of (with_caller p (if b then Some (message_at arg 0) else None)) ≡ (if b then record { by = p; message = message_at arg 0 } ∷ [] else [])
    go true = refl
    go false = refl
one_up p true (Moment.Resume i frame reply) = refl

ups_are : (v : ℕ) (past : List HandlerStep) → map up_of (begun v past) ≡ ups_at v past
ups_are v [] = refl
ups_are v (x ∷ past) =
    map-append up_of (begun v past) (with_caller (caller past) (delivered_by v x))
    ∙ (ap (λ (us : List Up). us ++ map up_of (with_caller (caller past) (delivered_by v x))) (ups_are v past)
    ∙ ap (λ (us : List Up). ups_at v past ++ us) (one_up (caller past) (is_repl v x) x.moment))

-- ---- those of one protocol
called_are : (p : ℕ) (es : List (ℕ × Message)) → map (λ (e : ℕ × Message). e.1) (filter (λ (e : ℕ × Message). e.0 == p) es) ≡ called_by p (map up_of es)
called_are p [] = refl
called_are p (e ∷ es) = go (e.0 == p) (called_are p es)
  where
    go : (b : Bool) → map (λ (d : ℕ × Message). d.1) (filter (λ (d : ℕ × Message). d.0 == p) es) ≡ called_by p (map up_of es)
        → map (λ (d : ℕ × Message). d.1) (cond b (e ∷ filter (λ (d : ℕ × Message). d.0 == p) es) (filter (λ (d : ℕ × Message). d.0 == p) es))
        ≡ messages_of (cond b (up_of e ∷ filter (λ (c : Up). c.by == p) (map up_of es)) (filter (λ (c : Up). c.by == p) (map up_of es)))
    go true ih = ap (λ (ms : List Message). e.1 ∷ ms) ih
    go false ih = ih

-- of each message the first place, in both forms
first_called : (p v : ℕ) (past : List HandlerStep) → first_places (begun_by p v past) ≡ first_places (called_by p (ups_at v past))
first_called p v past =
    ap first_places (called_are p (begun v past) ∙ ap (called_by p) (ups_are v past))

pub comparable_ups : (p v u : ℕ) (past : List HandlerStep) → Comparable (first_places (begun_by p v past)) (first_places (begun_by p u past))
    → Comparable (first_places (called_by p (ups_at v past))) (first_places (called_by p (ups_at u past)))
comparable_ups p v u past c =
    let mine : List Message = first_places (called_by p (ups_at v past)) in
    let yours : List Message = first_places (called_by p (ups_at u past)) in
    subst (λ (ms : List Message). Comparable ms yours) (first_called p v past)
    (subst (λ (ms : List Message). Comparable (first_places (begun_by p v past)) ms) (first_called p u past) c)

-- ---- membership
-- what came up, as a pair, and as a message of its protocol
pub record WasBegun (es : List (ℕ × Message)) (c : Up) : Type 0 where
  pub there : laws.In (c.by, c.message) es
  pub by : laws.In c.message (map (λ (e : ℕ × Message). e.1) (filter (λ (e : ℕ × Message). e.0 == c.by) es))

in_pairs : (es : List (ℕ × Message)) (c : Up) → In c (map up_of es) → WasBegun es c
in_pairs [] c i = absurd i
in_pairs (e ∷ es) c (inl same) = record { there = inl (ap (λ (d : Up). (d.by, d.message)) same); by = at (e.0 == c.by) refl }
  where
    neither : ((e.0 == c.by) ≡ true) × (e.0 ≡ c.by) ⊎ ((e.0 == c.by) ≡ false) × (e.0 ≢ c.by) → (e.0 == c.by) ≡ false → ⊥
    neither (inl t) is = let both : true ≡ false = sym t.0 ∙ is in cc
    neither (inr f) is = f.1 (sym (ap (λ (d : Up). d.by) same))

    at : (b : Bool) → (e.0 == c.by) ≡ b → laws.In c.message (map (λ (d : ℕ × Message). d.1) (cond b (e ∷ filter (λ (d : ℕ × Message). d.0 == c.by) es) (filter (λ (d : ℕ × Message). d.0 == c.by) es)))
    at true is = inl (ap (λ (d : Up). d.message) same)
    at false is = absurd (neither (eqb_tells e.0 c.by) is)
in_pairs (e ∷ es) c (inr i) = later (in_pairs es c i)
  where
    later : WasBegun es c → WasBegun (e ∷ es) c
    later ih = record { there = inr ih.there; by = at (e.0 == c.by) }
      where
        at : (b : Bool) → laws.In c.message (map (λ (d : ℕ × Message). d.1) (cond b (e ∷ filter (λ (d : ℕ × Message). d.0 == c.by) es) (filter (λ (d : ℕ × Message). d.0 == c.by) es)))
        at true = inr ih.by
        at false = ih.by

pub was_begun : (v : ℕ) (past : List HandlerStep) (c : Up) → In c (ups_at v past) → WasBegun (begun v past) c
was_begun v past c there = in_pairs (begun v past) c (subst (λ (us : List Up). In c us) (sym (ups_are v past)) there)
