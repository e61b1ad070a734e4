-- What becomes of the local versions where a call is completed.
use Rattle.std.proofs.Common.{arith, ◌≡◌, ◌≢◌, ◌⊎◌, inl, inr, ℕ, zero, suc, ◌+◌, ◌*◌, ◌<◌, refl, sym, ap, subst, ◌∙◌, List, [], ◌∷◌, get_or, Bool, true, false, ◌||◌, ◌==◌, if◌then◌else◌}
use Rattle.std.specs.List.{list_any}
use Rattle.samoa_model.specs.Allowed.{bound_in, weight}
use Rattle.samoa_model.specs.declared.handler.Outcome.{Outcome}
use Rattle.samoa_model.specs.declared.script.Decl.{Decl}
use Rattle.samoa_calls.specs.Handed.{ended_at}
use Rattle.samoa_serial.specs.declared.call.Call.{Call}
use Rattle.samoa_invariant.specs.Play.{is_bound}
use Rattle.samoa_invariant.specs.Slots.{At, put_at}
use Rattle.samoa_invariant.specs.State.{raise}
use Rattle.samoa_invariant.proofs.representation.Scripted.{get_is}
use Rattle.samoa_invariant.proofs.preservation.Slots.{put_at-else, put_at-here, slot_or_not}
use Rattle.samoa_control.specs.Forms.{raised_if, raises, risen}
use Rattle.samoa_control.specs.Grids.{Grid}
use Rattle.samoa_control.proofs.Grids.{grid-put, grid-same}

-- what a bound allows some calls of is named by it
bound_named : (bounds : List (ℕ × ℕ)) (p : ℕ) → 0 < bound_in bounds p → list_any (λ b. b.0 == p) bounds ≡ true
bound_named [] p some = absurd (omega (arith, some))
bound_named (b ∷ bs) p some = go (b.0 == p) refl (bound_named bs p)
  where
    go : (c : Bool) → (b.0 == p) ≡ c → (0 < bound_in bs p → list_any (λ x. x.0 == p) bs ≡ true) → ((b.0 == p) || list_any (λ x. x.0 == p) bs) ≡ true
    go true e later = ap (λ (c : Bool). c || list_any (λ x. x.0 == p) bs) e
    go false e later =
        ap (λ (c : Bool). c || list_any (λ x. x.0 == p) bs) e
        ∙ later (subst (λ (c : Bool). 0 < (if c then b.1 else bound_in bs p)) e some)

raises-bound : (d : Decl) (p : ℕ) → 0 < weight d p → raises d p ≡ is_bound d
raises-bound (Decl.Set micros) p some = refl
raises-bound (Decl.Bound bounds) p some = bound_named bounds p some
raises-bound (Decl.Route vertices roots edges) p some = refl

put-same : (f : At ℕ) (v p z i j : ℕ) → z ≡ zero → put_at f v p (f v p + z) i j ≡ f i j
put-same f v p z i j e = go (slot_or_not i v j p)
  where
    go : ((i ≡ v) × (j ≡ p)) ⊎ ((i ≢ v) ⊎ (j ≢ p)) → put_at f v p (f v p + z) i j ≡ f i j
    go (inl same) =
        let there : f i j ≡ f v p = ap (λ (a : ℕ). f a j) same.0 ∙ ap (λ (b : ℕ). f v b) same.1 in
        let more : f v p + z ≡ f v p = omega (arith, e) in
        put_at-here {A = ℕ} f v p i j (f v p + z) same.0 same.1 ∙ (more ∙ sym there)
    go (inr ne) = put_at-else {A = ℕ} f v p i j (f v p + z) ne

-- where nothing is raised
grid-still : (rows columns : ℕ) (cells : List ℕ) (f : At ℕ) (v p z : ℕ) → z ≡ zero → Grid rows columns cells f → Grid rows columns cells (put_at f v p (f v p + z))
grid-still rows columns cells f v p z e grid = grid-same rows columns cells f (put_at f v p (f v p + z)) (λ i j. put-same f v p z i j e) grid

-- where one is raised or not
grid-raised_if : (b : Bool) (rows columns : ℕ) (cells : List ℕ) (f : At ℕ) (v p : ℕ) → v < rows → p < columns → Grid rows columns cells f
    → Grid rows columns (raised_if b (v * columns + p) cells) (put_at f v p (f v p + (if b then suc zero else zero)))
grid-raised_if false rows columns cells f v p lt below grid = grid-still rows columns cells f v p zero refl grid
grid-raised_if true rows columns cells f v p lt below grid =
    let is : get_or cells (v * columns + p) 0 ≡ f v p = get_is {A = ℕ} cells (v * columns + p) (f v p) 0 (grid.value v p lt below) in
    let more : get_or cells (v * columns + p) 0 + 1 ≡ f v p + suc zero = omega (arith, is) in
    subst (λ (x : ℕ). Grid rows columns (raised_if true (v * columns + p) cells) (put_at f v p x)) more
    (grid-put rows columns cells f v p (get_or cells (v * columns + p) 0 + 1) lt below grid)

if_zero : (b : Bool) → (if b then zero else zero) ≡ zero
if_zero true = refl
if_zero false = refl

-- the local versions after a handler step
pub grid-risen : (d : Decl) (c : Call) (o : Outcome) (rows columns : ℕ) (cells : List ℕ) (f : At ℕ) (v : ℕ) → v < rows → c.handler.micro.0 < columns → 0 < weight d c.handler.micro.0
    → Grid rows columns cells f → Grid rows columns (risen d columns v (ended_at c o) cells) (put_at f v c.handler.micro.0 (f v c.handler.micro.0 + raise d o))
grid-risen d c (Outcome.Done reply) rows columns cells f v lt below declared grid =
    let p : ℕ = c.handler.micro.0 in
    subst (λ (b : Bool). Grid rows columns (raised_if b (v * columns + c.handler.micro.0) cells) (put_at f v c.handler.micro.0 (f v c.handler.micro.0 + (if is_bound d then suc zero else zero))))
    (sym (raises-bound d p declared))
    (grid-raised_if (is_bound d) rows columns cells f v c.handler.micro.0 lt below grid)
grid-risen d c (Outcome.Call event arg frame) rows columns cells f v lt below declared grid = grid-still rows columns cells f v c.handler.micro.0 _ (if_zero (is_bound d)) grid
grid-risen d c (Outcome.Later event arg frame) rows columns cells f v lt below declared grid = grid-still rows columns cells f v c.handler.micro.0 _ (if_zero (is_bound d)) grid
grid-risen d c (Outcome.Send to event arg frame) rows columns cells f v lt below declared grid = grid-still rows columns cells f v c.handler.micro.0 _ (if_zero (is_bound d)) grid
grid-risen d c (Outcome.Deliver arg frame) rows columns cells f v lt below declared grid = grid-still rows columns cells f v c.handler.micro.0 _ (if_zero (is_bound d)) grid
grid-risen d c (Outcome.Change change arg frame) rows columns cells f v lt below declared grid = grid-still rows columns cells f v c.handler.micro.0 _ (if_zero (is_bound d)) grid
