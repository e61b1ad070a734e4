-- What a text tells, part by part.
use Rattle.std.proofs.Common.{◌≡◌, refl, sym, ap, ◌∙◌, ℕ, Bool, true, false, ◌&&◌, if◌then◌else◌, List, [], ◌∷◌, ◌++◌, map, drop, append_assoc, append-nil, codes, bytes_eq}
use Rattle.samoa_laws.specs.lists.Lists.{Begins}
use Rattle.samoa_laws.specs.text.Text.{lines, fields}
use Rattle.samoa_serial.specs.Lists.{Each}
use Rattle.samoa_laws.specs.text.Clause.{IsMute, IsMuteLine}
use Rattle.samoa_laws.specs.text.Told.{field, heads, is_at, delivers, told_in, told_at}
use Rattle.samoa_laws.proofs.text.Texts.{Lacks, Plain, pieces_begin, line_is}

-- a text cut
abbrev pub cut : List ℕ → List (List (List ℕ))
cut text = map fields (lines text)

-- a text that comes where `here` holds tells these, and leaves `after`
abbrev pub Tells : ℕ → List ℕ → Bool → List ℕ → Bool → List (List (List ℕ)) → Type 0
Tells v name here text after ms = (rest : List ℕ) → told_in v name here (cut (text ++ rest)) ≡ ms ++ told_in v name after (cut rest)

pub tells_none : (v : ℕ) (name : List ℕ) (here : Bool) → Tells v name here [] here []
tells_none v name here rest = refl

-- one text after another
pub tells_both : (v : ℕ) (name : List ℕ) (here : Bool) (x : List ℕ) (after : Bool) (ms : List (List (List ℕ))) (y : List ℕ) (last : Bool) (ns : List (List (List ℕ)))
    → Tells v name here x after ms → Tells v name after y last ns → Tells v name here (x ++ y) last (ms ++ ns)
tells_both v name here x after ms y last ns t u rest =
    ap (λ (text : List ℕ). told_in v name here (cut text)) (append_assoc x y rest)
    ∙ (t (y ++ rest)
    ∙ (ap (λ (ls : List (List (List ℕ))). ms ++ ls) (u rest)
    ∙ sym (append_assoc ms ns (told_in v name last (cut rest)))))

-- a line
told_line : (v : ℕ) (name : List ℕ) (here : Bool) (line rest : List ℕ) → Lacks 10 line
    → told_in v name here (cut ((line ++ codes "\n") ++ rest)) ≡ told_in v name here (fields line ∷ cut rest)
told_line v name here line rest l = ap (λ (ls : List (List ℕ)). told_in v name here (map fields ls)) (line_is line rest l)

-- a line that heads no computation and tells no delivery
pub tells_other : (v : ℕ) (name : List ℕ) (here : Bool) {line : List ℕ} → Plain line → heads (fields line) ≡ false → delivers name (fields line) ≡ false
    → Tells v name here (line ++ codes "\n") here []
tells_other v name here {line} plain h d rest =
    let later = told_in v name here (cut rest) in
    told_line v name here line rest plain.lacks
    ∙ (ap (λ (b : Bool). if b then told_in v name (is_at v (fields line)) (cut rest) else (if delivers name (fields line) && here then drop 3 (fields line) ∷ later else later)) h
    ∙ ap (λ (b : Bool). if b && here then drop 3 (fields line) ∷ later else later) d)

-- a line that heads a computation
pub tells_head : (v : ℕ) (name : List ℕ) (here : Bool) {line : List ℕ} (at : Bool) → Plain line → heads (fields line) ≡ true → is_at v (fields line) ≡ at
    → Tells v name here (line ++ codes "\n") at []
tells_head v name here {line} at plain h same rest =
    let later = told_in v name here (cut rest) in
    told_line v name here line rest plain.lacks
    ∙ (ap (λ (b : Bool). if b then told_in v name (is_at v (fields line)) (cut rest) else (if delivers name (fields line) && here then drop 3 (fields line) ∷ later else later)) h
    ∙ ap (λ (b : Bool). told_in v name b (cut rest)) same)

-- a line that tells a delivery
pub tells_delivery : (v : ℕ) (name : List ℕ) (here : Bool) {line : List ℕ} (mine : Bool) → Plain line → heads (fields line) ≡ false → delivers name (fields line) ≡ mine
    → Tells v name here (line ++ codes "\n") here (if mine && here then drop 3 (fields line) ∷ [] else [])
tells_delivery v name here {line} mine plain h d rest =
    let later = told_in v name here (cut rest) in
    told_line v name here line rest plain.lacks
    ∙ (ap (λ (b : Bool). if b then told_in v name (is_at v (fields line)) (cut rest) else (if delivers name (fields line) && here then drop 3 (fields line) ∷ later else later)) h
    ∙ (ap (λ (b : Bool). if b && here then drop 3 (fields line) ∷ later else later) d ∙ go (mine && here)))
  where
    go : (b : Bool) → (if b then drop 3 (fields line) ∷ told_in v name here (cut rest) else told_in v name here (cut rest))
        ≡ (if b then drop 3 (fields line) ∷ [] else []) ++ told_in v name here (cut rest)
    go true = refl
    go false = refl

-- what lines that begin others tell begins what those tell
told_begins : (v : ℕ) (name : List ℕ) (here : Bool) (first later : List (List (List ℕ))) → Begins (told_in v name here first) (told_in v name here (first ++ later))
told_begins v name here [] later = record { rest = told_in v name here later; is = refl }
told_begins v name here (line ∷ first) later =
    go (heads line) (delivers name line && here) (told_begins v name (is_at v line) first later) (told_begins v name here first later)
  where
    go : (h d : Bool) → Begins (told_in v name (is_at v line) first) (told_in v name (is_at v line) (first ++ later))
        → Begins (told_in v name here first) (told_in v name here (first ++ later))
        → Begins (if h then told_in v name (is_at v line) first else (if d then drop 3 line ∷ told_in v name here first else told_in v name here first))
        (if h then told_in v name (is_at v line) (first ++ later) else (if d then drop 3 line ∷ told_in v name here (first ++ later) else told_in v name here (first ++ later)))
    go true d headed on = headed
    go false true headed on = record { rest = on.rest; is = ap (λ (ls : List (List (List ℕ))). drop 3 line ∷ ls) on.is }
    go false false headed on = on

map_both : (xs ys : List (List ℕ)) → map fields (xs ++ ys) ≡ map fields xs ++ map fields ys
map_both [] ys = refl
map_both (x ∷ xs) ys = ap (λ (ls : List (List (List ℕ))). fields x ∷ ls) (map_both xs ys)

-- what the beginning of a text tells begins what the whole tells
pub told_prefix : (v : ℕ) (name first whole : List ℕ) → Begins first whole → Begins (told_at v name first) (told_at v name whole)
told_prefix v name first whole p =
    let ends : Begins (lines first) (lines (first ++ p.rest)) = pieces_begin 10 [] first p.rest in
    let told : Begins (told_at v name first) (told_in v name false (cut first ++ map fields ends.rest)) =
    told_begins v name false (cut first) (map fields ends.rest) in
    record {
      rest = told.rest;
      is = ap (λ (text : List ℕ). told_at v name text) p.is
          ∙ (ap (λ (ls : List (List ℕ)). told_in v name false (map fields ls)) ends.is
          ∙ (ap (λ (ls : List (List (List ℕ))). told_in v name false ls) (map_both (lines first) ends.rest)
          ∙ told.is));
    }

pub tells_as : (v : ℕ) (name : List ℕ) (here : Bool) (text : List ℕ) (after : Bool) (ms ns : List (List (List ℕ))) → ms ≡ ns
    → Tells v name here text after ms → Tells v name here text after ns
tells_as v name here text after ms ns e t rest = t rest ∙ ap (λ (ls : List (List (List ℕ))). ls ++ told_in v name after (cut rest)) e

-- ---- texts that tell nothing
-- wherever it comes
abbrev pub TellsNone : ℕ → List ℕ → List ℕ → Type 0
TellsNone v name text = (here : Bool) → told_in v name here (cut text) ≡ []

pub tells_nothing : (v : ℕ) (name text : List ℕ) → ((here : Bool) → Tells v name here text here []) → TellsNone v name text
tells_nothing v name text t here = ap (λ (l : List ℕ). told_in v name here (cut l)) (sym (append-nil text)) ∙ t here []

mute_lines : (v : ℕ) (name : List ℕ) (here : Bool) (ls : List (List ℕ)) → Each IsMuteLine ls → told_in v name here (map fields ls) ≡ []
mute_lines v name here [] mute = refl
mute_lines v name here (line ∷ ls) mute =
    let later : List (List (List ℕ)) = told_in v name here (map fields ls) in
    let fs : List (List ℕ) = fields line in
    ap (λ (b : Bool). if b then told_in v name (is_at v fs) (map fields ls) else (if delivers name fs && here then drop 3 fs ∷ later else later)) mute.0.0
    ∙ (ap (λ (b : Bool). if (b && bytes_eq (field fs 2) name) && here then drop 3 fs ∷ later else later) mute.0.1
    ∙ mute_lines v name here ls mute.1)

pub mute_tells : (v : ℕ) (name text : List ℕ) → IsMute text → TellsNone v name text
mute_tells v name text mute here = mute_lines v name here (lines text) mute

pub none_then : (v : ℕ) (name text more : List ℕ) → ((here : Bool) → Tells v name here text here []) → TellsNone v name more → TellsNone v name (text ++ more)
none_then v name text more t none here = t here more ∙ none here
