-- What the sequencer's box numbers: consecutive numbers from 1, of messages with different keys.
use Rattle.std.proofs.Common.{◌≡◌, ◌⊎◌, inl, inr, ℕ, zero, suc, ◌+◌, ◌-◌, ◌<◌, ◌≤◌, false, List, [], ◌∷◌, ◌++◌, length, refl, sym, ap, ◌∙◌, subst, arith, Option, Some, None}
use Rattle.std.proofs.lemmas.List.{length_push}
use Rattle.samoa_serial.specs.Rows.{message_key, message_of}
use Rattle.samoa_serial.specs.AbcastTable.{has_message}
use Rattle.samoa_serial.specs.declared.message.Message.{Message}
use Rattle.samoa_laws.proofs.lists.Lists.{in_split}
use Rattle.samoa_laws.proofs.lists.Messages.{first_of_keys_new, up_to_begins, up_to_none, up_to_some}
use Rattle.samoa_laws.specs.lists.Lists.{Begins, In}
use Rattle.samoa_laws.specs.lists.Messages.{first_of_keys}
use Rattle.samoa_serial.proofs.ListLaws.{begins-refl}
use Rattle.samoa_laws.specs.broadcasts.Abcast.{listed, up_to}
use Rattle.samoa_laws.proofs.broadcasts.Maps.{some_or_none, message_end_cases, message_end_same, message_end_other}
use Rattle.samoa_laws.proofs.broadcasts.Handed.{messages, messages_end}

-- ---- messages with different keys
-- no message has the key of one with a lesser number
abbrev pub Apart : (ℕ → Option Message) → Type 0
Apart message = (p : ℕ) (m : Message) → message (suc p) ≡ Some m → has_message (up_to message p) (message_key m) ≡ false

-- there the first of each key are all
pub apart_first : (message : ℕ → Option Message) → Apart message → (p : ℕ) → first_of_keys (up_to message p) ≡ up_to message p
apart_first message apart zero = refl
apart_first message apart (suc p) = go (apart_first message apart p) (some_or_none (message (suc p)))
  where
    go : first_of_keys (up_to message p) ≡ up_to message p → ((m : Message) × (message (suc p) ≡ Some m)) ⊎ (message (suc p) ≡ None)
        → first_of_keys (up_to message (suc p)) ≡ up_to message (suc p)
    go ih (inl m) =
        let more : up_to message (suc p) ≡ up_to message p ++ m.0 ∷ [] = up_to_some message p m.0 m.1 in
        ap first_of_keys more
        ∙ (first_of_keys_new (up_to message p) m.0 (apart p m.0 m.1) ∙ (ap (λ (l : List Message). l ++ m.0 ∷ []) ih ∙ sym more))
    go ih (inr none) =
        let same : up_to message (suc p) ≡ up_to message p = up_to_none message p none in
        ap first_of_keys same ∙ (ih ∙ sym same)

-- the first numbers of two functions that agree there
pub up_to_same : (message other : ℕ → Option Message) (p : ℕ) → ((i : ℕ) → 1 ≤ i → i ≤ p → message i ≡ other i) → up_to message p ≡ up_to other p
up_to_same message other zero agree = refl
up_to_same message other (suc p) agree =
    ap (λ (l : List Message). l ++ listed (message (suc p))) (up_to_same message other p (λ i lo hi. agree i lo (omega arith)))
    ∙ ap (λ (o : Option Message). up_to other p ++ listed o) (agree (suc p) (omega arith) (omega arith))

-- past the last number there is nothing more
up_to_past : (message : ℕ → Option Message) (last k : ℕ) → ((i : ℕ) → last < i → message i ≡ None) → (n : ℕ) → n ≡ last + k → up_to message n ≡ up_to message last
up_to_past message last zero none n e =
    let same : n ≡ last = omega arith in ap (λ (i : ℕ). up_to message i) same
up_to_past message last (suc k) none zero e =
    let same : zero ≡ last = omega arith in ap (λ (i : ℕ). up_to message i) same
up_to_past message last (suc k) none (suc n) e =
    up_to_none message n (none (suc n) (omega arith)) ∙ up_to_past message last k none n (omega arith)

either : (a b : ℕ) → (a ≤ b) ⊎ (b ≤ a)
either a b = grind arith

pub up_to_all : (message : ℕ → Option Message) (last : ℕ) → ((i : ℕ) → last < i → message i ≡ None) → (n : ℕ) → Begins (up_to message n) (up_to message last)
up_to_all message last none n = go (either n last)
  where
    go : (n ≤ last) ⊎ (last ≤ n) → Begins (up_to message n) (up_to message last)
    go (inl le) = up_to_begins message n last le
    go (inr le) =
        let same : up_to message n ≡ up_to message last = up_to_past message last (n - last) none n (omega arith) in
        subst (λ (l : List Message). Begins l (up_to message last)) (sym same) (begins-refl (up_to message last))

-- ---- what was told with numbers
pub record Told (Psi : Message → Type 0) (ts : List (ℕ × Message)) : Type 0 where
  pub finds : (i : ℕ) (m : Message) → In (i, m) ts → message_of ts i ≡ Some m
  pub bounds : (i : ℕ) (m : Message) → message_of ts i ≡ Some m → (1 ≤ i) × (i ≤ length ts)
  pub all : up_to (message_of ts) (length ts) ≡ messages ts
  pub apart : Apart (message_of ts)
  pub valid : (i : ℕ) (m : Message) → In (i, m) ts → Psi m

pub none_told : (Psi : Message → Type 0) → Told Psi []
none_told Psi = record {
  finds = λ i m h. absurd h;
  bounds = λ i m e. absurd (cc (e));
  all = refl;
  apart = λ p m e. absurd (cc (e));
  valid = λ i m h. absurd h;
}

pub none_past : (Psi : Message → Type 0) (ts : List (ℕ × Message)) → Told Psi ts → (i : ℕ) → length ts < i → message_of ts i ≡ None
none_past Psi ts t i past = go (some_or_none (message_of ts i))
  where
    go : ((m : Message) × (message_of ts i ≡ Some m)) ⊎ (message_of ts i ≡ None) → message_of ts i ≡ None
    go (inl m) = let b = t.bounds i m.0 m.1 in let le : i ≤ length ts = b.1 in absurd (omega arith)
    go (inr e) = e

-- one more, of a new key
pub tells : (Psi : Message → Type 0) (ts : List (ℕ × Message)) (m : Message) → Told Psi ts → has_message (messages ts) (message_key m) ≡ false → Psi m
    → Told Psi (ts ++ (suc (length ts), m) ∷ [])
tells Psi ts m t new valid = record {
  finds = λ i x h. found i x (in_split ts (last, m) (i, x) h);
  bounds = λ i x e. bound i x (message_end_cases ts last m i x e);
  all = ap (λ (n : ℕ). up_to after n) (longer (length_push ts (last, m)))
      ∙ (ap (λ (o : Option Message). up_to after (length ts) ++ listed o) here
      ∙ (ap (λ (l : List Message). l ++ m ∷ []) (before (length ts) (omega arith) ∙ t.all) ∙ sym (messages_end ts last m)));
  apart = λ p x e. differs p x (message_end_cases ts last m (suc p) x e);
  valid = λ i x h. holds i x (in_split ts (last, m) (i, x) h);
}
  where
    last : ℕ
    last = suc (length ts)

    after : ℕ → Option Message
    after = message_of (ts ++ (last, m) ∷ [])

    longer : length (ts ++ (last, m) ∷ []) ≡ length ts + 1 → length (ts ++ (last, m) ∷ []) ≡ suc (length ts)
    longer e = omega arith

    here : after (suc (length ts)) ≡ Some m
    here = message_end_same ts last m (none_past Psi ts t last (omega arith))

    -- the earlier numbers stay
    before : (p : ℕ) → p ≤ length ts → up_to after p ≡ up_to (message_of ts) p
    before p le = up_to_same after (message_of ts) p (λ i lo hi. message_end_other ts last m i (λ e. absurd (apart_numbers i hi e)))
      where
        apart_numbers : (i : ℕ) → i ≤ p → last ≡ i → ⊥
        apart_numbers i hi e = omega arith

    found : (i : ℕ) (x : Message) → In (i, x) ts ⊎ ◌≡◌ {A = ℕ × Message} (i, x) (last, m) → after i ≡ Some x
    found i x (inl h) =
        let b = t.bounds i x (t.finds i x h) in
        let le : i ≤ length ts = b.1 in
        message_end_other ts last m i (λ e. absurd (lower i le e)) ∙ t.finds i x h
      where
        lower : (i : ℕ) → i ≤ length ts → last ≡ i → ⊥
        lower i le e = omega arith
    found i x (inr e) =
        let number : i ≡ last = ap (λ (u : ℕ × Message). u.0) e in
        let it : x ≡ m = ap (λ (u : ℕ × Message). u.1) e in
        ap after number ∙ (here ∙ ap (λ (y : Message). Some y) (sym it))

    bound : (i : ℕ) (x : Message) → (message_of ts i ≡ Some x) ⊎ ((message_of ts i ≡ None) × (last ≡ i) × (m ≡ x))
        → (1 ≤ i) × (i ≤ length (ts ++ (last, m) ∷ []))
    bound i x (inl e) =
        let b = t.bounds i x e in
        let lo : 1 ≤ i = b.0 in
        let hi : i ≤ length ts = b.1 in
        let more : length (ts ++ (last, m) ∷ []) ≡ length ts + 1 = length_push ts (last, m) in
        (lo, omega arith)
    bound i x (inr e) =
        let same : last ≡ i = e.1 in
        let more : length (ts ++ (last, m) ∷ []) ≡ length ts + 1 = length_push ts (last, m) in
        (omega arith, omega arith)

    differs : (p : ℕ) (x : Message) → (message_of ts (suc p) ≡ Some x) ⊎ ((message_of ts (suc p) ≡ None) × (last ≡ suc p) × (m ≡ x))
        → has_message (up_to after p) (message_key x) ≡ false
    differs p x (inl e) =
        let b = t.bounds (suc p) x e in
        let hi : suc p ≤ length ts = b.1 in
        ap (λ (l : List Message). has_message l (message_key x)) (before p (omega arith)) ∙ t.apart p x e
    differs p x (inr e) =
        let same : last ≡ suc p = e.1 in
        let number : p ≡ length ts = omega arith in
        ap (λ (l : List Message). has_message l (message_key x)) (ap (λ (n : ℕ). up_to after n) number ∙ (before (length ts) (omega arith) ∙ t.all))
        ∙ (ap (λ (y : Message). has_message (messages ts) (message_key y)) (sym e.2) ∙ new)

    holds : (i : ℕ) (x : Message) → In (i, x) ts ⊎ ◌≡◌ {A = ℕ × Message} (i, x) (last, m) → Psi x
    holds i x (inl h) = t.valid i x h
    holds i x (inr e) = subst Psi (sym (ap (λ (u : ℕ × Message). u.1) e)) valid
