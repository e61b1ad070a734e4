-- A box that hands on, in the order of their numbers, the messages that it has by number.
use Rattle.std.proofs.Common.{◌≡◌, ◌⊎◌, inl, inr, ℕ, suc, ◌<◌, ◌≤◌, Bool, true, false, List, [], ◌∷◌, ◌++◌, map, length, refl, sym, ap, ◌∙◌, subst, arith, Option, Some}
use Rattle.std.proofs.lemmas.List.{map-append}
use Rattle.samoa_serial.specs.Rows.{message_key, message_of}
use Rattle.samoa_serial.specs.AbcastTable.{has_message}
use Rattle.samoa_serial.specs.declared.message.Message.{Message}
use Rattle.samoa_laws.proofs.lists.Lists.{in_end, in_map, in_mapped, in_split}
use Rattle.samoa_laws.proofs.lists.Messages.{first_of_keys_comparable, first_of_keys_in, first_of_keys_new, first_of_keys_old, first_places_in, first_places_new, first_places_old, in_first_places, in_has, up_to_some}
use Rattle.samoa_laws.specs.lists.Lists.{Comparable, In}
use Rattle.samoa_laws.specs.lists.Messages.{first_of_keys, first_places}
use Rattle.samoa_laws.specs.broadcasts.Abcast.{up_to}
use Rattle.samoa_laws.proofs.broadcasts.Maps.{IsThere, room}

abbrev pub messages : List (ℕ × Message) → List Message
messages us = map (λ (e : ℕ × Message). e.1) us

-- the messages called up, each at its first place, are those of the first p numbers, each key at its first place:
-- of all that were passed, or with the one that comes next, which was called up and is not marked yet
abbrev pub Order : (ℕ → Option Message) → List (ℕ × Message) → ℕ → List (ℕ × Message) → Type 0
Order message es p us =
    (first_places (messages us) ≡ first_of_keys (up_to message p))
    ⊎ (IsThere es (suc p) × (first_places (messages us) ≡ first_of_keys (up_to message (suc p))))

-- what holds after each step: es has messages by number, p numbers are passed, us was called up
pub record Handed (message : ℕ → Option Message) (Phi : ℕ → Message → Type 0) (es : List (ℕ × Message)) (p : ℕ) (us : List (ℕ × Message)) : Type 0 where
  pub known : (i : ℕ) (m : Message) → message_of es i ≡ Some m → message i ≡ Some m
  pub valid : (i : ℕ) (m : Message) → message_of es i ≡ Some m → Phi i m
  pub there : (i : ℕ) → 1 ≤ i → i ≤ p → IsThere es i
  pub raised : (i : ℕ) (m : Message) → In (i, m) us → message_of es i ≡ Some m
  pub order : Order message es p us

pub none_handed : (message : ℕ → Option Message) (Phi : ℕ → Message → Type 0) → Handed message Phi [] 0 []
none_handed message Phi = record {
  known = λ i m e. absurd (cc (e));
  valid = λ i m e. absurd (cc (e));
  there = λ i lo hi. absurd (none i lo hi);
  raised = λ i m h. absurd h;
  order = inl refl;
}
  where
    none : (i : ℕ) → 1 ≤ i → i ≤ 0 → ⊥
    none i lo hi = omega arith

-- one more is passed, and it is there
there_more : (es : List (ℕ × Message)) (p : ℕ) → ((i : ℕ) → 1 ≤ i → i ≤ p → IsThere es i) → IsThere es (suc p) → (i : ℕ) → 1 ≤ i → i ≤ suc p → IsThere es i
there_more es p all here i lo hi = go (split i (suc p) hi)
  where
    split : (a b : ℕ) → a ≤ b → (a ≡ b) ⊎ (a < b)
    split a b le = grind arith

    go : (i ≡ suc p) ⊎ (i < suc p) → IsThere es i
    go (inl e) = subst (λ (k : ℕ). IsThere es k) (sym e) here
    go (inr less) = all i lo (omega arith)

-- more messages are there
pub gets_more : (message : ℕ → Option Message) (Phi : ℕ → Message → Type 0) (es fs : List (ℕ × Message)) (p : ℕ) (us : List (ℕ × Message))
    → Handed message Phi es p us → ((i : ℕ) (m : Message) → message_of es i ≡ Some m → message_of fs i ≡ Some m)
    → ((i : ℕ) (m : Message) → message_of fs i ≡ Some m → message i ≡ Some m) → ((i : ℕ) (m : Message) → message_of fs i ≡ Some m → Phi i m)
    → Handed message Phi fs p us
gets_more message Phi es fs p us h stays known valid = record {
  known = known;
  valid = valid;
  there = λ i lo hi. still i (h.there i lo hi);
  raised = λ i m at. stays i m (h.raised i m at);
  order = go h.order;
}
  where
    still : (i : ℕ) → IsThere es i → IsThere fs i
    still i t = (t.0, stays i t.0 t.1)

    go : Order message es p us → Order message fs p us
    go (inl e) = inl e
    go (inr r) = inr (still (suc p) r.0, r.1)

-- the next is passed, where its key came before
pub skips : (message : ℕ → Option Message) (Phi : ℕ → Message → Type 0) (es : List (ℕ × Message)) (p : ℕ) (us : List (ℕ × Message)) (m : Message)
    → Handed message Phi es p us → message_of es (suc p) ≡ Some m → has_message (up_to message p) (message_key m) ≡ true
    → Handed message Phi es (suc p) us
skips message Phi es p us m h here old = record {
  known = h.known;
  valid = h.valid;
  there = there_more es p h.there (m, here);
  raised = h.raised;
  order = inl (go h.order);
}
  where
    same : first_of_keys (up_to message (suc p)) ≡ first_of_keys (up_to message p)
    same = ap first_of_keys (up_to_some message p m (h.known (suc p) m here)) ∙ first_of_keys_old (up_to message p) m old

    go : Order message es p us → first_places (messages us) ≡ first_of_keys (up_to message (suc p))
    go (inl e) = e ∙ sym same
    go (inr r) = r.1

pub messages_end : (us : List (ℕ × Message)) (i : ℕ) (m : Message) → messages (us ++ (i, m) ∷ []) ≡ messages us ++ m ∷ []
messages_end us i m = map-append (λ (e : ℕ × Message). e.1) us ((i, m) ∷ [])

-- the next is called up, where its key is new
pub hands_on : (message : ℕ → Option Message) (Phi : ℕ → Message → Type 0) (es : List (ℕ × Message)) (p : ℕ) (us : List (ℕ × Message)) (m : Message)
    → Handed message Phi es p us → message_of es (suc p) ≡ Some m → has_message (up_to message p) (message_key m) ≡ false
    → Handed message Phi es p (us ++ (suc p, m) ∷ [])
hands_on message Phi es p us m h here new = record {
  known = h.known;
  valid = h.valid;
  there = h.there;
  raised = λ i x at. still i x (in_split us (suc p, m) (i, x) at);
  order = inr ((m, here), ap first_places (messages_end us (suc p) m) ∙ go h.order);
}
  where
    still : (i : ℕ) (x : Message) → In (i, x) us ⊎ ◌≡◌ {A = ℕ × Message} (i, x) (suc p, m) → message_of es i ≡ Some x
    still i x (inl at) = h.raised i x at
    still i x (inr e) =
        let number : i ≡ suc p = ap (λ (u : ℕ × Message). u.0) e in
        let it : x ≡ m = ap (λ (u : ℕ × Message). u.1) e in
        ap (λ (k : ℕ). message_of es k) number ∙ (here ∙ ap (λ (y : Message). Some y) (sym it))

    more : first_of_keys (up_to message (suc p)) ≡ first_of_keys (up_to message p) ++ m ∷ []
    more = ap first_of_keys (up_to_some message p m (h.known (suc p) m here)) ∙ first_of_keys_new (up_to message p) m new

    both : (b : Bool) → b ≡ true → b ≡ false → ⊥
    both b e f = cc

    not_yet : first_places (messages us) ≡ first_of_keys (up_to message p) → In m (messages us) → ⊥
    not_yet e at =
        both (has_message (up_to message p) (message_key m))
        (in_has (up_to message p) m (first_of_keys_in (up_to message p) m (subst (λ (l : List Message). In m l) e (in_first_places (messages us) m at))))
        new

    go : Order message es p us → first_places (messages us ++ m ∷ []) ≡ first_of_keys (up_to message (suc p))
    go (inl e) = first_places_new (messages us) m (not_yet e) ∙ (ap (λ (l : List Message). l ++ m ∷ []) e ∙ sym more)
    go (inr r) =
        let at : In m (messages us) =
        first_places_in (messages us) m (subst (λ (l : List Message). In m l) (sym (r.1 ∙ more)) (in_end (first_of_keys (up_to message p)) m)) in
        first_places_old (messages us) m at ∙ r.1

-- the next is passed, where it was called up
pub moves_on : (message : ℕ → Option Message) (Phi : ℕ → Message → Type 0) (es : List (ℕ × Message)) (p : ℕ) (us : List (ℕ × Message)) (m : Message)
    → Handed message Phi es p us → In (suc p, m) us → Handed message Phi es (suc p) us
moves_on message Phi es p us m h called = record {
  known = h.known;
  valid = h.valid;
  there = there_more es p h.there (m, here);
  raised = h.raised;
  order = inl (go h.order);
}
  where
    here : message_of es (suc p) ≡ Some m
    here = h.raised (suc p) m called

    go : Order message es p us → first_places (messages us) ≡ first_of_keys (up_to message (suc p))
    go (inl e) =
        let at : In m (messages us) = in_map (λ (u : ℕ × Message). u.1) us (suc p, m) called in
        let old : has_message (up_to message p) (message_key m) ≡ true =
        in_has (up_to message p) m (first_of_keys_in (up_to message p) m (subst (λ (l : List Message). In m l) e (in_first_places (messages us) m at))) in
        e ∙ sym (ap first_of_keys (up_to_some message p m (h.known (suc p) m here)) ∙ first_of_keys_old (up_to message p) m old)
    go (inr r) = r.1

-- ---- what follows
-- the shape: for some number, the first of each key up to it
pub shape : (message : ℕ → Option Message) (Phi : ℕ → Message → Type 0) (es : List (ℕ × Message)) (p : ℕ) (us : List (ℕ × Message))
    → Handed message Phi es p us → (n : ℕ) × (first_places (messages us) ≡ first_of_keys (up_to message n))
shape message Phi es p us h = go h.order
  where
    go : Order message es p us → (n : ℕ) × (first_places (messages us) ≡ first_of_keys (up_to message n))
    go (inl e) = (p, e)
    go (inr r) = (suc p, r.1)

-- of two boxes over the same messages
pub comparable : (message : ℕ → Option Message) (us vs : List (ℕ × Message))
    → (n : ℕ) × (first_places (messages us) ≡ first_of_keys (up_to message n))
    → (n : ℕ) × (first_places (messages vs) ≡ first_of_keys (up_to message n))
    → Comparable (first_places (messages us)) (first_places (messages vs))
comparable message us vs a b =
    subst (λ (l : List Message). Comparable l (first_places (messages vs))) (sym a.1)
    (subst (λ (l : List Message). Comparable (first_of_keys (up_to message a.0)) l) (sym b.1) (first_of_keys_comparable message a.0 b.0))

-- each message called up is that of a number, and valid
pub called_valid : (message : ℕ → Option Message) (Phi : ℕ → Message → Type 0) (es : List (ℕ × Message)) (p : ℕ) (us : List (ℕ × Message))
    → Handed message Phi es p us → (m : Message) → In m (messages us) → (i : ℕ) × (message i ≡ Some m) × Phi i m
called_valid message Phi es p us h m at =
    let e = in_mapped (λ (u : ℕ × Message). u.1) us m at in
    let here : message_of es e.0.0 ≡ Some m = h.raised e.0.0 m (subst (λ (x : Message). In (e.0.0, x) us) e.2 e.1) in
    (e.0.0, h.known e.0.0 m here, h.valid e.0.0 m here)

pub few_passed : (message : ℕ → Option Message) (Phi : ℕ → Message → Type 0) (es : List (ℕ × Message)) (p : ℕ) (us : List (ℕ × Message))
    → Handed message Phi es p us → p ≤ length es
few_passed message Phi es p us h = room es p h.there
