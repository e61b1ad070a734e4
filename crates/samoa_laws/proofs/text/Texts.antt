-- Lines and fields of texts that are put together from parts.
use Rattle.std.proofs.Common.{◌≡◌, refl, sym, ap, ◌∙◌, ℕ, zero, suc, ◌+◌, ◌<◌, ◌/◌, ◌%◌, ◌==◌, arith, Bool, true, false, ◌&&◌, ◌||◌, if◌then◌else◌, List, [], ◌∷◌, ◌++◌, map, append_assoc, append-nil, codes, decimal, nat_lt, true≢false}
use Rattle.std.specs.Prelude.{⊤}
use Rattle.std.specs.List.{list_all, list_any}
use Rattle.std.specs.Fmt.{digit_glyph, digits_onto, digits}
use Rattle.std.proofs.lemmas.Bool.{false≢true}
use Rattle.samoa_model.specs.NameRule.{is_name_byte, is_script_name}
use Rattle.samoa_serial.specs.Lines.{word_text, words_text}
use Rattle.samoa_laws.specs.lists.Lists.{Begins}
use Rattle.samoa_laws.specs.text.Text.{pieces_after, lines, fields}

-- no byte of a text is this one
abbrev pub Lacks : ℕ → List ℕ → Type 0
Lacks end [] = ⊤
Lacks end (c ∷ cs) = ((c == end) ≡ false) × Lacks end cs

pub lacks_append : (end : ℕ) (xs ys : List ℕ) → Lacks end xs → Lacks end ys → Lacks end (xs ++ ys)
lacks_append end [] ys l m = m
lacks_append end (x ∷ xs) ys l m = (l.0, lacks_append end xs ys l.1 m)

-- ---- pieces
-- a piece that lacks the end is taken whole
pub piece_is : (end : ℕ) (begun piece rest : List ℕ) → (end == end) ≡ true → Lacks end piece
    → pieces_after end begun (piece ++ end ∷ rest) ≡ (begun ++ piece) ∷ pieces_after end [] rest
piece_is end begun [] rest same l =
    ap (λ (b : Bool). if b then begun ∷ pieces_after end [] rest else pieces_after end (begun ++ end ∷ []) rest) same
    ∙ ap (λ (p : List ℕ). p ∷ pieces_after end [] rest) (sym (append-nil begun))
piece_is end begun (c ∷ piece) rest same l =
    ap (λ (b : Bool). if b then begun ∷ pieces_after end [] (piece ++ end ∷ rest) else pieces_after end (begun ++ c ∷ []) (piece ++ end ∷ rest)) l.0
    ∙ (piece_is end (begun ++ c ∷ []) piece rest same l.1
    ∙ ap (λ (p : List ℕ). p ∷ pieces_after end [] rest) (append_assoc begun (c ∷ []) piece))

-- the pieces of a text that begins another are the first of that one
pub pieces_begin : (end : ℕ) (begun text rest : List ℕ) → Begins (pieces_after end begun text) (pieces_after end begun (text ++ rest))
pieces_begin end begun [] rest = record { rest = pieces_after end begun rest; is = refl }
pieces_begin end begun (c ∷ text) rest = go (c == end) (pieces_begin end [] text rest) (pieces_begin end (begun ++ c ∷ []) text rest)
  where
    go : (b : Bool) → Begins (pieces_after end [] text) (pieces_after end [] (text ++ rest))
        → Begins (pieces_after end (begun ++ c ∷ []) text) (pieces_after end (begun ++ c ∷ []) (text ++ rest))
        → Begins (if b then begun ∷ pieces_after end [] text else pieces_after end (begun ++ c ∷ []) text)
        (if b then begun ∷ pieces_after end [] (text ++ rest) else pieces_after end (begun ++ c ∷ []) (text ++ rest))
    go true ended on = record { rest = ended.rest; is = ap (λ (ps : List (List ℕ)). begun ∷ ps) ended.is }
    go false ended on = on

-- a line, and the text after it
pub line_is : (line rest : List ℕ) → Lacks 10 line → lines ((line ++ codes "\n") ++ rest) ≡ line ∷ lines rest
line_is line rest l =
    ap (λ (text : List ℕ). lines text) (append_assoc line (codes "\n") rest)
    ∙ piece_is 10 [] line rest refl l

-- the first field, and the others
pub field_is : (first rest : List ℕ) → Lacks 32 first → fields (first ++ 32 ∷ rest) ≡ first ∷ fields rest
field_is first rest l =
    ap (λ (text : List ℕ). pieces_after 32 [] text) (append_assoc first (32 ∷ rest) (codes " "))
    ∙ piece_is 32 [] first (rest ++ codes " ") refl l

-- ---- numbers
-- a digit is no byte below 48
digit_other : (end d : ℕ) → end < 48 → d < 10 → (digit_glyph false d == end) ≡ false
digit_other end d low small = go (nat_lt d 10) refl
  where
    go : (b : Bool) → nat_lt d 10 ≡ b → ((if b then 48 + d else 87 + d) == end) ≡ false
    go true e = grind arith
    go false e = grind arith

onto_lacks : (end : ℕ) → end < 48 → (k n : ℕ) (acc : List ℕ) → Lacks end acc → Lacks end (digits_onto k 10 false n acc)
onto_lacks end low zero n acc l = l
onto_lacks end low (suc k) n acc l =
    let first : (digit_glyph false (n % 10) == end) ≡ false = digit_other end (n % 10) low (omega arith) in
    go (n / 10 == 0) (onto_lacks end low k (n / 10) (digit_glyph false (n % 10) ∷ acc) (first, l)) (first, l)
  where
    go : (b : Bool) → Lacks end (digits_onto k 10 false (n / 10) (digit_glyph false (n % 10) ∷ acc)) → Lacks end (digit_glyph false (n % 10) ∷ acc)
        → Lacks end (if b then digit_glyph false (n % 10) ∷ acc else digits_onto k 10 false (n / 10) (digit_glyph false (n % 10) ∷ acc))
    go true more last = last
    go false more last = more

pub decimal_lacks : (end : ℕ) → end < 48 → (n : ℕ) → Lacks end (decimal n)
unfolding digits
decimal_lacks end low n = onto_lacks end low 64 n [] tt

pub words_lack : (ws : List ℕ) → Lacks 10 (words_text ws)
words_lack [] = tt
words_lack (w ∷ ws) = lacks_append 10 (word_text w) (words_text ws) (refl, decimal_lacks 10 (omega arith) w) (words_lack ws)

-- the fields of words, after a first field
pub word_fields : (first : List ℕ) (ws : List ℕ) → Lacks 32 first → fields (first ++ words_text ws) ≡ first ∷ map decimal ws
word_fields first [] l =
    ap (λ (text : List ℕ). pieces_after 32 [] (text ++ codes " ")) (append-nil first)
    ∙ piece_is 32 [] first [] refl l
word_fields first (w ∷ ws) l =
    field_is first (decimal w ++ words_text ws) l
    ∙ ap (λ (fs : List (List ℕ)). first ∷ fs) (word_fields (decimal w) ws (decimal_lacks 32 (omega arith) w))

-- ---- names
no_name_byte : (c end : ℕ) → is_name_byte end ≡ false → is_name_byte c ≡ true → (c == end) ≡ true → ⊥
no_name_byte c end other named same =
    let equal : c ≡ end = grind (arith, same) in
    false≢true (sym other ∙ (ap (λ (x : ℕ). is_name_byte x) (sym equal) ∙ named))

pub name_lacks : (end : ℕ) → is_name_byte end ≡ false → (name : List ℕ) → list_all is_name_byte name ≡ true → Lacks end name
name_lacks end other [] all = tt
name_lacks end other (c ∷ cs) all = go (is_name_byte c) refl (c == end) refl (λ rest. name_lacks end other cs rest) all
  where
    go : (b : Bool) → is_name_byte c ≡ b → (s : Bool) → (c == end) ≡ s → (list_all is_name_byte cs ≡ true → Lacks end cs)
        → (b && list_all is_name_byte cs) ≡ true → Lacks end (c ∷ cs)
    go true e false s more rest = (s, more rest)
    go true e true s more rest = absurd (no_name_byte c end other e s)
    go false e b s more rest = absurd (false≢true rest)

and_last : (a b c : Bool) → (a && (b && c)) ≡ true → c ≡ true
and_last true true c h = h
and_last true false c h = absurd (false≢true h)
and_last false b c h = absurd (false≢true h)

-- a name has no line feed and no space, and isn't empty
pub name_line : (name : List ℕ) → is_script_name name ≡ true → Lacks 10 name
name_line name h = name_lacks 10 refl name (and_last _ _ _ h)

pub name_field : (name : List ℕ) → is_script_name name ≡ true → Lacks 32 name
name_field name h = name_lacks 32 refl name (and_last _ _ _ h)

pub name_some : (name : List ℕ) → is_script_name name ≡ true → name ≡ [] → ⊥
name_some name h e = false≢true (ap (λ (n : List ℕ). is_script_name n) (sym e) ∙ h)

-- a text without a line feed
pub record Plain (text : List ℕ) : Type 0 where
  pub lacks : Lacks 10 text

pub both : {xs ys : List ℕ} → Plain xs → Plain ys → Plain (xs ++ ys)
both {xs} {ys} p q = record { lacks = lacks_append 10 xs ys p.lacks q.lacks }

pub number : (n : ℕ) → Plain (decimal n)
number n = record { lacks = decimal_lacks 10 (omega arith) n }

pub words : (ws : List ℕ) → Plain (words_text ws)
words ws = record { lacks = words_lack ws }

has_none : (c : ℕ) (cs : List ℕ) (b rest : Bool) → (c == 10) ≡ b → (b || rest) ≡ false → ((c == 10) ≡ false) × (rest ≡ false)
has_none c cs true rest e h = absurd (true≢false h)
has_none c cs false rest e h = (e, h)

lacks_by : (text : List ℕ) → list_any (λ c. c == 10) text ≡ false → Lacks 10 text
lacks_by [] h = tt
lacks_by (c ∷ cs) h =
    let parts : ((c == 10) ≡ false) × (list_any (λ x. x == 10) cs ≡ false) = has_none c cs (c == 10) (list_any (λ x. x == 10) cs) refl h in
    (parts.0, lacks_by cs parts.1)

-- a text that is written out
pub literal : (text : List ℕ) → list_any (λ c. c == 10) text ≡ false → Plain text
literal text h = record { lacks = lacks_by text h }

pub space : Plain (codes " ")
space = literal (codes " ") refl
