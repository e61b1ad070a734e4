-- Locked values: what a majority has acknowledged is all that can be proposed later.
use Rattle.std.proofs.Common.{◌≡◌, ◌⊎◌, inl, inr, ℕ, zero, suc, ◌<◌, ◌≤◌, eqb, List, length, map, sym, ◌∙◌, arith}
use Rattle.std.specs.List.{IsDistinct}
use Rattle.samoa_serial.specs.declared.message.Message.{Message}
use Rattle.samoa_serial.specs.declared.message.Estimate.{Estimate}
use Rattle.samoa_laws.proofs.lists.Lists.{in_mapped}
use Rattle.samoa_laws.specs.lists.Lists.{In}
use Rattle.samoa_laws.proofs.consensus.Majorities.{majority_of, majorities_meet}

-- an estimate that was told, by node
pub record Told : Type 0 where
  pub node : ℕ
  pub round : ℕ
  pub ts : ℕ
  pub message : Message

-- a proposal that was told, and an acknowledgement
pub record Put : Type 0 where
  pub round : ℕ
  pub message : Message

pub record Ack : Type 0 where
  pub node : ℕ
  pub round : ℕ

-- what was told and announced of one instance
pub record Facts : Type 1 where
  pub estimates : Told → Type 0
  pub proposals : Put → Type 0
  pub acks : Ack → Type 0
  pub announced : Message → Type 0

abbrev pub senders : List Estimate → List ℕ
senders ks = map (λ (k : Estimate). k.sender) ks

in_senders : (ks : List Estimate) (x : ℕ) → In x (senders ks) → (k : Estimate) × In k ks × (k.sender ≡ x)
in_senders ks x h = in_mapped (λ (k : Estimate). k.sender) ks x h

-- a majority of different nodes
pub record IsMajority (n : ℕ) (xs : List ℕ) : Type 0 where
  pub distinct : IsDistinct eqb xs
  pub below : (x : ℕ) → In x xs → x < n
  pub many : majority_of n ≤ length xs

abbrev pub told_of : ℕ → Estimate → Told
told_of r k = record { node = k.sender; round = r; ts = k.adopted; message = k.message }

-- the estimates from which a proposal was made
pub record Backing (n : ℕ) (f : Facts) (p : Put) : Type 0 where
  pub from : List Estimate
  pub quorum : IsMajority n (senders from)
  pub told : (k : Estimate) → In k from → f.estimates (told_of p.round k)
  pub earlier : (k : Estimate) → In k from → k.adopted < p.round
  pub best : Estimate
  pub chosen : In best from
  pub same : best.message ≡ p.message
  pub greatest : (k : Estimate) → In k from → k.adopted ≤ best.adopted

-- where an estimate comes from
abbrev pub IsAdopted : Facts → Told → Type 0
IsAdopted f e = (e.ts ≡ 0) ⊎ f.proposals (record { round = e.ts; message = e.message })

-- a round whose proposal a majority has acknowledged
pub record IsLocked (n : ℕ) (f : Facts) (m : Message) : Type 0 where
  pub round : ℕ
  pub positive : 1 ≤ round
  pub proposed : f.proposals (record { round = round; message = m })
  pub who : List ℕ
  pub quorum : IsMajority n who
  pub acked : (x : ℕ) → In x who → f.acks (record { node = x; round = round })

pub record IsSafe (n : ℕ) (f : Facts) : Type 0 where
  pub unique : (p q : Put) → f.proposals p → f.proposals q → p.round ≡ q.round → p.message ≡ q.message
  pub backed : (p : Put) → f.proposals p → Backing n f p
  pub adopted : (e : Told) → f.estimates e → IsAdopted f e
  pub later : (a : Ack) (e : Told) → f.acks a → f.estimates e → a.node ≡ e.node → a.round < e.round → a.round ≤ e.ts
  pub announced : (m : Message) → f.announced m → IsLocked n f m

-- the estimate of one who has acknowledged stands in each later backing
common : (n : ℕ) (f : Facts) → IsSafe n f → (m : Message) (l : IsLocked n f m) (p : Put) → f.proposals p → (b : Backing n f p)
    → l.round < p.round → l.round ≤ b.best.adopted
common n f safe m l p at b lt =
    let both = majorities_meet n l.who (senders b.from) l.quorum.distinct b.quorum.distinct l.quorum.below b.quorum.below l.quorum.many b.quorum.many in
    let k = in_senders b.from both.0 both.2 in
    let up : l.round ≤ k.0.adopted = safe.later (record { node = both.0; round = l.round }) (told_of p.round k.0) (l.acked both.0 both.1) (b.told k.0 k.1) (sym k.2) lt in
    let top : k.0.adopted ≤ b.best.adopted = b.greatest k.0 k.1 in
    omega arith

split : (a b : ℕ) → a ≤ b → (a ≡ b) ⊎ (a < b)
split a b le = grind arith

-- each proposal of a round from the locked one on has its message
pub locked : (n : ℕ) (f : Facts) → IsSafe n f → (m : Message) (l : IsLocked n f m) (bound : ℕ) (p : Put) → f.proposals p
    → l.round ≤ p.round → p.round < bound → p.message ≡ m
locked n f safe m l zero p at le lt = absurd (omega arith)
locked n f safe m l (suc bound) p at le lt =
    go (λ (q : Put) (here : f.proposals q) (up : l.round ≤ q.round) (down : q.round < bound). locked n f safe m l bound q here up down)
    (split l.round p.round le)
  where
    b : Backing n f p
    b = safe.backed p at

    by_best : ((q : Put) → f.proposals q → l.round ≤ q.round → q.round < bound → q.message ≡ m)
        → l.round ≤ b.best.adopted → b.best.adopted < p.round → IsAdopted f (told_of p.round b.best) → p.message ≡ m
    by_best ih up down (inl none) =
        let pos = l.positive in
        absurd (omega (arith, pos, none))
    by_best ih up down (inr put) = sym b.same ∙ ih (record { round = b.best.adopted; message = b.best.message }) put up (omega arith)

    go : ((q : Put) → f.proposals q → l.round ≤ q.round → q.round < bound → q.message ≡ m)
        → (l.round ≡ p.round) ⊎ (l.round < p.round) → p.message ≡ m
    go ih (inl e) = safe.unique p (record { round = l.round; message = m }) at l.proposed (sym e)
    go ih (inr more) = by_best ih (common n f safe m l p at b more) (b.earlier b.best b.chosen) (safe.adopted (told_of p.round b.best) (b.told b.best b.chosen))

-- what is announced is one message
pub announced_agree : (n : ℕ) (f : Facts) → IsSafe n f → (m m' : Message) → f.announced m → f.announced m' → m ≡ m'
announced_agree n f safe m m' at at' =
    go (safe.announced m at) (safe.announced m' at')
  where
    either : (a b : ℕ) → (a ≤ b) ⊎ (b ≤ a)
    either a b = grind arith

    go : IsLocked n f m → IsLocked n f m' → m ≡ m'
    go l l' = meet (either l.round l'.round)
      where
        meet : (l.round ≤ l'.round) ⊎ (l'.round ≤ l.round) → m ≡ m'
        meet (inl le) = sym (locked n f safe m l (suc l'.round) (record { round = l'.round; message = m' }) l'.proposed le (omega arith))
        meet (inr le) = locked n f safe m' l' (suc l.round) (record { round = l.round; message = m }) l.proposed le (omega arith)
