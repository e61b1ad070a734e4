-- The keys of the messages that wait, as messages come and are taken out.
use Rattle.std.proofs.Common.{◌≡◌, Bool, true, false, not, ◌||◌, List, [], ◌∷◌, cond, refl, sym, ap, ◌∙◌, arith}
use Rattle.std.specs.Ordering.{is_eq}
use Rattle.std.proofs.lemmas.Bool.Decides.{nat_tests}
use Rattle.samoa_serial.specs.Rows.{has_key, same_key, message_key}
use Rattle.samoa_serial.specs.AbcastTable.{has_message, without_message}
use Rattle.samoa_serial.specs.contracts.keys.KeyOrd.TheImpl.{ghosts as keyed}
use Rattle.samoa_serial.specs.declared.message.Message.{Message}
use Rattle.samoa_serial.specs.declared.keys.Key.{Key}
use Rattle.samoa_abcast.specs.Indexed.{IsIndexed}

-- the key was put there
pub more_indexed : (ms : List Message) (ks ks' : List Key) (key : Key) → IsIndexed ms ks → ((q : Key) → has_key ks' q ≡ cond (is_eq (keyed.cmp key q)) true (has_key ks q)) → IsIndexed ms ks'
more_indexed ms ks ks' key indexed adds q w = adds q ∙ go (is_eq (keyed.cmp key q)) (has_key ks q) (indexed q w)
  where
    go : (b c : Bool) → c ≡ true → cond b true c ≡ true
    go true c t = refl
    go false c t = t

-- the messages of a key were taken out, and then the key
pub rest_indexed : (ms : List Message) (ks ks' : List Key) (key : Key) → IsIndexed ms ks
    → ((q : Key) → has_key ks' q ≡ cond (is_eq (keyed.cmp key q)) false (has_key ks q)) → IsIndexed (without_message ms key) ks'
rest_indexed ms ks ks' key indexed removes q w = removes q ∙ go (is_eq (keyed.cmp key q)) refl
  where
    same : is_eq (keyed.cmp key q) ≡ true → key ≡ q
    same t = grind (arith, nat_tests)

    gone : (xs : List Message) → has_message (without_message xs key) key ≡ false
    gone [] = refl
    gone (x ∷ xs) = here (same_key (message_key x) key) refl (gone xs)
      where
        here : (b : Bool) → same_key (message_key x) key ≡ b → has_message (without_message xs key) key ≡ false
            → has_message (cond (not b) (x ∷ without_message xs key) (without_message xs key)) key ≡ false
        here true t ih = ih
        here false t ih = ap (λ (b : Bool). b || has_message (without_message xs key) key) t ∙ ih

    kept : (xs : List Message) → has_message (without_message xs key) q ≡ true → has_message xs q ≡ true
    kept [] h = h
    kept (x ∷ xs) h = here (same_key (message_key x) key) (kept xs) h
      where
        either : (a b c : Bool) → (b ≡ true → c ≡ true) → (a || b) ≡ true → (a || c) ≡ true
        either true b c i t = refl
        either false b c i t = i t

        any_way : (a c : Bool) → c ≡ true → (a || c) ≡ true
        any_way true c t = refl
        any_way false c t = t

        here : (b : Bool) → (has_message (without_message xs key) q ≡ true → has_message xs q ≡ true)
            → has_message (cond (not b) (x ∷ without_message xs key) (without_message xs key)) q ≡ true
            → (same_key (message_key x) q || has_message xs q) ≡ true
        here true ih t = any_way (same_key (message_key x) q) (has_message xs q) (ih t)
        here false ih t = either (same_key (message_key x) q) (has_message (without_message xs key) q) (has_message xs q) ih t

    go : (b : Bool) → is_eq (keyed.cmp key q) ≡ b → cond b false (has_key ks q) ≡ true
    go true t = absurd (clash (sym (gone ms) ∙ (ap (λ (k : Key). has_message (without_message ms key) k) (same t) ∙ w)))
      where
        clash : false ≡ true → ⊥
        clash e = cc
    go false t = indexed q (kept ms w)
