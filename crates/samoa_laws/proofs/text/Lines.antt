-- What the lines of deliveries and the first lines of computations tell.
use Rattle.std.proofs.Common.{◌≡◌, refl, sym, ap, ◌∙◌, ℕ, ◌<◌, ◌^◌, ◌==◌, arith, Bool, true, false, ◌&&◌, if◌then◌else◌, List, [], ◌∷◌, ◌++◌, map, drop, append_assoc, codes, decimal, bytes_eq}
use Rattle.std.specs.Str.Parse.{digits_value}
use Rattle.std.proofs.lemmas.Bool.{eqb-true}
use Rattle.std.proofs.lemmas.Fmt.{decimal_is_IsNumeral}
use Rattle.std.proofs.lemmas.Slice.Eq.{bytes_eq-Decides}
use Rattle.samoa_model.specs.declared.record.Cause.{Cause}
use Rattle.samoa_model.specs.declared.record.Ext.{Ext}
use Rattle.samoa_model.specs.declared.script.Script.{Script}
use Rattle.samoa_model.specs.Scripts.{micro_at}
use Rattle.samoa_serial.specs.Lines.{words_text, cause_letter, cause_name, ext_text, delivered_text}
use Rattle.samoa_laws.specs.text.Text.{fields}
use Rattle.samoa_laws.specs.text.Told.{field, delivers}
use Rattle.samoa_laws.proofs.text.Texts.{Lacks, Plain, literal, space, both, number, words, field_is, word_fields, decimal_lacks}
use Rattle.samoa_laws.proofs.text.Tells.{Tells, tells_as, tells_head, tells_delivery}
use Rattle.samoa_laws.proofs.text.Reports.{IsClean, cause_plain}

low : 32 < 48
low = omega arith

-- ---- deliveries
delivery_fields : (comp : ℕ) (name arg : List ℕ) → Lacks 32 name
    → fields (codes "D " ++ decimal comp ++ codes " " ++ name ++ words_text arg) ≡ codes "D" ∷ decimal comp ∷ name ∷ map decimal arg
delivery_fields comp name arg l =
    let later : decimal comp ++ codes " " ++ name ++ words_text arg ≡ decimal comp ++ 32 ∷ (name ++ words_text arg) =
    append_assoc (decimal comp ++ codes " ") name (words_text arg) ∙ append_assoc (decimal comp) (codes " ") (name ++ words_text arg) in
    ap (λ (text : List ℕ). codes "D" ∷ fields text) later
    ∙ (ap (λ (fs : List (List ℕ)). codes "D" ∷ fs) (field_is (decimal comp) (name ++ words_text arg) (decimal_lacks 32 low comp))
    ∙ ap (λ (fs : List (List ℕ)). codes "D" ∷ decimal comp ∷ fs) (word_fields name arg l))

-- p is the one microprotocol of its name
abbrev pub IsAlone : Script → ℕ → Type 0
IsAlone script p = (q : ℕ) → (micro_at script q).name ≡ (micro_at script p).name → q ≡ p

same_name : (script : Script) (p q : ℕ) → IsAlone script p → bytes_eq (micro_at script q).name (micro_at script p).name ≡ (q == p)
same_name script p q alone =
    let decides = bytes_eq-Decides (micro_at script q).name (micro_at script p).name in
    go (bytes_eq (micro_at script q).name (micro_at script p).name) (q == p) refl
    (λ e. grind (arith, alone q (decides.0 e)))
    (λ e. decides.1 (ap (λ (x : ℕ). (micro_at script x).name) (eqb-true q p e)))
  where
    go : (a b : Bool) → b ≡ (q == p) → (a ≡ true → b ≡ true) → (b ≡ true → a ≡ true) → a ≡ b
    go true b e f g = sym (f refl)
    go false true e f g = g refl
    go false false e f g = refl

pub delivered_tells : (v : ℕ) (here : Bool) (script : Script) (clean : IsClean script) (p : ℕ) → IsAlone script p → (comp q : ℕ) (arg : List ℕ)
    → Tells v (micro_at script p).name here (delivered_text script comp q arg) here (if (q == p) && here then map decimal arg ∷ [] else [])
unfolding delivered_text
delivered_tells v here script clean p alone comp q arg =
    let name : List ℕ = (micro_at script p).name in
    let line : List ℕ = codes "D " ++ decimal comp ++ codes " " ++ (micro_at script q).name ++ words_text arg in
    let cut : fields line ≡ codes "D" ∷ decimal comp ∷ (micro_at script q).name ∷ map decimal arg = delivery_fields comp (micro_at script q).name arg (clean.micro_field q) in
    let mine : delivers name (fields line) ≡ (q == p) = ap (λ (fs : List (List ℕ)). delivers name fs) cut ∙ same_name script p q alone in
    tells_as v name here (delivered_text script comp q arg) here
    (if (q == p) && here then drop 3 (fields line) ∷ [] else []) (if (q == p) && here then map decimal arg ∷ [] else [])
    (ap (λ (fs : List (List ℕ)). if (q == p) && here then drop 3 fs ∷ [] else []) cut)
    (tells_delivery v name here (q == p)
    (both (both (both (both (literal (codes "D ") refl) (number comp)) space) (clean.micro q)) (words arg))
    refl mine)

-- ---- first lines
head_parts : (a b c d w : List ℕ)
    → a ++ codes " " ++ b ++ codes " " ++ c ++ codes " " ++ d ++ w ≡ a ++ 32 ∷ (b ++ 32 ∷ (c ++ 32 ∷ (d ++ w)))
head_parts a b c d w =
    append_assoc (a ++ codes " " ++ b ++ codes " " ++ c ++ codes " ") d w
    ∙ (append_assoc (a ++ codes " " ++ b ++ codes " " ++ c) (codes " ") (d ++ w)
    ∙ (append_assoc (a ++ codes " " ++ b ++ codes " ") c (32 ∷ (d ++ w))
    ∙ (append_assoc (a ++ codes " " ++ b) (codes " ") (c ++ 32 ∷ (d ++ w))
    ∙ (append_assoc (a ++ codes " ") b (32 ∷ (c ++ 32 ∷ (d ++ w)))
    ∙ append_assoc a (codes " ") (b ++ 32 ∷ (c ++ 32 ∷ (d ++ w)))))))

-- after the letter: the number, the tick, the node
head_fields : (comp tick node : ℕ) (name args : List ℕ)
    → fields (decimal comp ++ codes " " ++ decimal tick ++ codes " " ++ decimal node ++ codes " " ++ name ++ words_text args)
    ≡ decimal comp ∷ decimal tick ∷ decimal node ∷ fields (name ++ words_text args)
head_fields comp tick node name args =
    let rest : List ℕ = name ++ words_text args in
    ap (λ (text : List ℕ). fields text) (head_parts (decimal comp) (decimal tick) (decimal node) name (words_text args))
    ∙ (field_is (decimal comp) (decimal tick ++ 32 ∷ (decimal node ++ 32 ∷ rest)) (decimal_lacks 32 low comp)
    ∙ (ap (λ (fs : List (List ℕ)). decimal comp ∷ fs) (field_is (decimal tick) (decimal node ++ 32 ∷ rest) (decimal_lacks 32 low tick))
    ∙ ap (λ (fs : List (List ℕ)). decimal comp ∷ decimal tick ∷ fs) (field_is (decimal node) rest (decimal_lacks 32 low node))))

pub ext_tells : (v : ℕ) (name : List ℕ) (here : Bool) (script : Script) (clean : IsClean script) (comp : ℕ) (ext : Ext) → ext.node.0 < 2 ^ 64
    → Tells v name here (ext_text script comp ext) (ext.node.0 == v) []
unfolding ext_text
ext_tells v name here script clean comp ext small = of ext.cause (cause_plain script clean ext.cause)
  where
    is_there : (letter : List ℕ) (cause : Cause)
        → (digits_value 10 (field (letter ∷ fields (decimal comp ++ codes " " ++ decimal ext.tick ++ codes " " ++ decimal ext.node.0 ++ codes " " ++ cause_name script cause ++ words_text ext.args)) 3) == v)
        ≡ (ext.node.0 == v)
    is_there letter cause =
        ap (λ (fs : List (List ℕ)). digits_value 10 (field (letter ∷ fs) 3) == v) (head_fields comp ext.tick ext.node.0 (cause_name script cause) ext.args)
        ∙ ap (λ (n : ℕ). n == v) (decimal_is_IsNumeral ext.node.0 small).1

    of : (cause : Cause) → Plain (cause_name script cause)
        → Tells v name here
        (cause_letter cause ++ decimal comp ++ codes " " ++ decimal ext.tick ++ codes " " ++ decimal ext.node.0 ++ codes " " ++ cause_name script cause ++ words_text ext.args ++ codes "\n")
        (ext.node.0 == v) []
    of (Cause.Event event) plain =
        tells_head v name here (ext.node.0 == v)
        (both (both (both (both (both (both (both (both (literal (codes "E ") refl) (number comp)) space) (number ext.tick)) space) (number ext.node.0)) space) plain) (words ext.args))
        refl (is_there (codes "E") (Cause.Event event))
    of (Cause.Change change) plain =
        tells_head v name here (ext.node.0 == v)
        (both (both (both (both (both (both (both (both (literal (codes "B ") refl) (number comp)) space) (number ext.tick)) space) (number ext.node.0)) space) plain) (words ext.args))
        refl (is_there (codes "B") (Cause.Change change))
