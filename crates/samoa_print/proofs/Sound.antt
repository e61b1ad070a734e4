-- The trees whose texts are read as them, and the texts of their parts.
use Rattle.std.proofs.Common.{◌≡◌, ℕ, suc, ◌+◌, ◌^◌, ◌<◌, ◌≤◌, List, [], ◌∷◌, ◌++◌, length, get_or, slice_index, drop, map, Bool, true, false, ◌&&◌, nat_le, nat_lt, Option, Some, option_map, max, refl, sym, ap, ap₂, ◌∙◌, subst, arith, append_assoc, append-nil, IsUtf8, codes}
use Rattle.std.specs.Prelude.{option_and_then, ⊤}
use Rattle.std.specs.List.{list_all}
use Rattle.std.proofs.lemmas.Bool.{and_parts}
use Rattle.std.proofs.lemmas.Bool.Decides.{nat_tests}
use Rattle.std.proofs.lemmas.List.{drop_more, at_drop_all}
use Rattle.json.specs.Token.{Token}
use Rattle.json.specs.Lex.{tokens}
use Rattle.json.specs.Json as json
use Rattle.json.specs.Print.{escape, escape_byte, ArePrintableOrBad}
use Rattle.json.specs.Tree as tree
use Rattle.json.proofs.Numbered.{ArePrintableOrBad-tokens, value-HasNumbers}
use Rattle.json.proofs.Printed.Decimals.{IsNumber-decimal}
use Rattle.json.proofs.Printed.Strings.{escape_byte_plain}
use Rattle.json.proofs.Printed.Tokens.{tokens-print}
use Rattle.json.proofs.Printed.Trees.{value-json_tokens, ArePrintable-json_tokens}
use Rattle.serde_json.specs.Data.{Data, null, boolean, number, string, array, object, Items, no_items, item, Members, no_members, member, depth, items_depth, members_depth}
use Rattle.serde_json.specs.Read.{read, max_depth, of_json, of_items}
use Rattle.serde_json.specs.View.{items_of}
use Rattle.serde_json.specs.Written.{outline, items_outline, members_outline, has_float, compact_text, items_text, comma_if, IsInOrder}
use Rattle.serde_json.proofs.Numbers.{number_of-decimal}
use Rattle.serde_json.proofs.Texts.{tokens_from_order, print-outline}
use Rattle.samoa_model.specs.NameRule.{is_name_byte, is_letter, IsScriptName}
use Rattle.samoa_model.specs.declared.ids.EventId.{EventId}
use Rattle.samoa_model.specs.declared.ids.ChangeId.{ChangeId}
use Rattle.samoa_model.specs.declared.record.Cause.TheVariants.{Event, Change}
use Rattle.samoa_model.specs.declared.script.ChangeDef.{ChangeDef}
use Rattle.samoa_model.specs.declared.script.CrashDef.{CrashDef}
use Rattle.samoa_model.specs.declared.script.DeclDef.{DeclDef}
use Rattle.samoa_model.specs.declared.script.DoDef.{DoDef}
use Rattle.samoa_model.specs.declared.script.EventDef.{EventDef}
use Rattle.samoa_model.specs.declared.script.LossDef.{LossDef}
use Rattle.samoa_model.specs.declared.script.MicroDef.{MicroDef}
use Rattle.samoa_model.specs.declared.script.Script.{Script}
use Rattle.samoa_grammar.specs.Tree.{IsJson}
use Rattle.samoa_print.specs.Texts.{event_text, change_text}
use Rattle.samoa_print.specs.Canonical.{list_tree, number_tree, do_members, change_tree, crash_tree, decl_tree, do_tree, event_tree, loss_tree, micro_tree, tree_of}
use Rattle.samoa_print.specs.Sound.{IsSound, Adds, AddsAfter}

-- ---- a tree nests as deep as its outline

mutual
  outline_depth : (d : Data) → tree.depth (outline d) ≡ depth d
  outline_depth null = refl
  outline_depth (boolean b) = refl
  outline_depth (number n) = refl
  outline_depth (string s) = refl
  outline_depth (array ds) = ap suc (items_outline_depth ds)
  outline_depth (object ms) = ap suc (members_outline_depth ms)

  items_outline_depth : (ds : Items) → tree.items_depth (items_outline ds) ≡ items_depth ds
  items_outline_depth no_items = refl
  items_outline_depth (item d ds) = ap₂ max (outline_depth d) (items_outline_depth ds)

  members_outline_depth : (ms : Members) → tree.members_depth (members_outline ms) ≡ members_depth ms
  members_outline_depth no_members = refl
  members_outline_depth (member k d ms) = ap₂ max (outline_depth d) (members_outline_depth ms)

-- what the tokens up to the last mean
abbrev whole : Option (json.Json × List Token) → Option Data
whole o = option_and_then of_json (option_and_then (λ p. json.if_last p.0 p.1) o)

parsed : (d : Data) → depth d ≤ max_depth → json.value max_depth (tree.json_tokens (outline d)) ≡ Some (outline d, [])
parsed d shallow =
    ap (json.value max_depth) (sym (append-nil (tree.json_tokens (outline d)))) ∙ value-json_tokens (outline d) max_depth [] (omega (arith, outline_depth d))

-- ---- what makes a tree sound

-- a text that has the tree's parts in order, and is read as it
pub sound_read : (text : List ℕ) (d : Data) → IsInOrder text d → read text ≡ Some d → has_float d ≡ false → depth d ≤ max_depth → IsSound d
sound_read text d order reads plain shallow =
    let same = tokens_from_order text d order plain in
    let ts = tree.json_tokens (outline d) in (
      value-HasNumbers max_depth ts [] (outline d) (subst ArePrintableOrBad same (ArePrintableOrBad-tokens text)) (parsed d shallow),
      sym (ap whole (ap (json.value max_depth) same ∙ parsed d shallow)) ∙ reads,
    )

pub sound_number : (n : ℕ) → n < 2 ^ 64 → IsSound (number_tree n)
sound_number n fits = (IsNumber-decimal n fits, ap (option_map number) (number_of-decimal n fits))

pub sound_string : (s : List ℕ) → IsSound (string s)
sound_string s = (tt, refl)

abbrev pub AreSound : List Data → Type 0
AreSound [] = ⊤
AreSound (d ∷ ds) = IsSound d × AreSound ds

sound_items : (ds : List Data) → AreSound ds → tree.ItemsHaveNumbers (items_outline (items_of ds)) × (of_items (items_outline (items_of ds)) ≡ Some (items_of ds))
sound_items [] h = (tt, refl)
sound_items (d ∷ ds) h =
    let rest = sound_items ds h.1 in (
      (h.0.0, rest.0),
      ap (option_and_then (λ x. option_map (item x) (of_items (items_outline (items_of ds))))) h.0.1 ∙ ap (option_map (item d)) rest.1,
    )

pub sound_list : (ds : List Data) → AreSound ds → IsSound (array (items_of ds))
sound_list ds h = let items = sound_items ds h in (items.0, ap (option_map array) items.1)

-- ---- the text of a sound tree is read as it

pub sound_text : (text : List ℕ) (d : Data) → IsUtf8 text → text ≡ compact_text d → IsSound d → depth d ≤ max_depth → IsJson text d
sound_text text d utf8 is sound shallow =
    let same : tokens text ≡ tree.json_tokens (outline d) =
    ap tokens (is ∙ sym (print-outline d)) ∙ tokens-print (tree.json_tokens (outline d)) (ArePrintable-json_tokens (outline d) sound.0) in
    (utf8, ap whole (ap (json.value max_depth) same ∙ parsed d shallow) ∙ sound.1)

-- ---- a name needs no escape

plain_byte : (c : ℕ) → is_name_byte c ≡ true → (c ≡ 34 → ⊥) × (c ≡ 92 → ⊥) × (32 ≤ c)
plain_byte c h = (λ e. grind (arith, nat_tests), λ e. grind (arith, nat_tests), grind (arith, nat_tests))

plain_bytes : (s : List ℕ) → list_all is_name_byte s ≡ true → escape s ≡ s
plain_bytes [] h = refl
plain_bytes (c ∷ s) h =
    let both = and_parts (is_name_byte c) (list_all is_name_byte s) h in
    let plain = plain_byte c both.0 in
    ap₂ (λ a b. a ++ b) (escape_byte_plain c plain.0 plain.1 plain.2) (plain_bytes s both.1)

pub plain_name : (s : List ℕ) → IsScriptName s → escape s ≡ s
plain_name s h =
    let inner = (and_parts (is_letter (slice_index s 0)) (nat_le (length s) 16 && list_all is_name_byte s) h).1 in
    plain_bytes s (and_parts (nat_le (length s) 16) (list_all is_name_byte s) inner).1

-- ---- bytes that are appended one after another

pub after : (x y z a b : List ℕ) → y ≡ x ++ a → z ≡ y ++ b → z ≡ x ++ (a ++ b)
after x y z a b e f = f ∙ ap (λ l. l ++ b) e ∙ append_assoc x a b

-- ---- lists, item by item

-- the items before a place are written: what is left ends the text as the whole list does, and where it is sound the whole is
pub record IsWritten {X : Type 0} (tree : X → Data) (xs : List X) (place : ℕ) (start now : List ℕ) : Type 0 where
  pub text : now ++ items_text (nat_lt 0 place) (items_of (map tree (drop place xs))) ≡ start ++ items_text false (items_of (map tree xs))
  pub sound : AreSound (map tree (drop place xs)) → AreSound (map tree xs)

pub none_written : {X : Type 0} (tree : X → Data) (xs : List X) (start : List ℕ) → IsWritten tree xs 0 start start
none_written tree xs start = record { text = refl; sound = λ h. h }

-- an item and the rest, after what was written
item_text : (later : Bool) (d : Data) (ds : Items) (now new : List ℕ) → AddsAfter (comma_if later) d now new → new ++ items_text true ds ≡ now ++ items_text later (item d ds)
item_text later d ds now new adds =
    ap (λ l. l ++ items_text true ds) adds.0 ∙ append_assoc now (comma_if later ++ compact_text d) (items_text true ds)
    ∙ ap (λ l. now ++ l) (append_assoc (comma_if later) (compact_text d) (items_text true ds))

module _ {X : Type 0} (tree : X → Data) (xs : List X) (place : ℕ) where
  pub one_more : (x : X) (start now new : List ℕ) → place < length xs → x ≡ get_or xs place x → IsWritten tree xs place start now
      → AddsAfter (comma_if (nat_lt 0 place)) (tree x) now new → IsWritten tree xs (place + 1) start new
  one_more x start now new below here written adds =
      let left : map tree (drop place xs) ≡ tree x ∷ map tree (drop (place + 1) xs) = ap (map tree) (drop_more xs place x below ∙ ap (λ y. y ∷ drop (place + 1) xs) (sym here)) in
      let later : nat_lt 0 (place + 1) ≡ true = grind (arith, nat_tests) in
      record {
        text = ap (λ b. new ++ items_text b (items_of (map tree (drop (place + 1) xs)))) later ∙ item_text (nat_lt 0 place) (tree x) (items_of (map tree (drop (place + 1) xs))) now new adds
            ∙ ap (λ ds. now ++ items_text (nat_lt 0 place) (items_of ds)) (sym left) ∙ written.text;
        sound = λ h. written.sound (subst AreSound (sym left) (adds.1, h));
      }

  -- a list that was written whole
  pub all_written : (begin old s1 s2 now new : List ℕ) → length xs ≤ place → s1 ≡ old ++ begin → s2 ≡ s1 ++ codes "[" → IsWritten tree xs place s2 now → new ≡ now ++ codes "]"
      → AddsAfter begin (list_tree tree xs) old new
  all_written begin old s1 s2 now new end e1 e2 written e =
      let none : map tree (drop place xs) ≡ [] = at_drop_all (map tree) xs place end in
      let ds = map tree xs in
      let text : new ≡ s2 ++ items_text false (items_of ds) = e ∙ ap (λ l. now ++ items_text (nat_lt 0 place) (items_of l)) (sym none) ∙ written.text in (
        after old s1 new begin (91 ∷ items_text false (items_of ds)) e1 (after s1 s2 new (codes "[") (items_text false (items_of ds)) e2 text),
        sound_list ds (written.sound (subst AreSound (sym none) tt)),
      )

-- ---- objects, key by key

event_sound : (a e n t : Data) → IsSound a → IsSound e → IsSound n → IsSound t
    → IsSound (object (member (codes "args") a (member (codes "event") e (member (codes "node") n (member (codes "tick") t no_members)))))
event_sound a e n t sa se sn st = ((sa.0, (se.0, (sn.0, (st.0, tt)))), rw (sa.1, se.1, sn.1, st.1) refl)

change_sound : (a e n t : Data) → IsSound a → IsSound e → IsSound n → IsSound t
    → IsSound (object (member (codes "args") a (member (codes "change") e (member (codes "node") n (member (codes "tick") t no_members)))))
change_sound a e n t sa se sn st = ((sa.0, (se.0, (sn.0, (st.0, tt)))), rw (sa.1, se.1, sn.1, st.1) refl)

-- an item of `do`, with what its parts were read from
module _ (script : Script) (item : DoDef) (begin old s0 s1 s2 s3 s4 new args name : List ℕ) (node tick : ℕ) (args_are : args ≡ item.args) (node_is : node ≡ item.node.0) (tick_is : tick ≡ item.tick)
    (begun : s0 ≡ old ++ begin) (first : AddsAfter (codes "{\"args\":") (list_tree number_tree args) s0 s1) (third : AddsAfter (codes ",\"node\":") (number_tree node) s2 s3)
    (last : AddsAfter (codes ",\"tick\":") (number_tree tick) s3 s4) (end : new ≡ s4 ++ codes "}") where
  pub event_adds : (event : EventId) → name ≡ event_text script event → AddsAfter (codes ",\"event\":") (string name) s1 s2 → AddsAfter begin (object (do_members script item (Event event))) old new
  unfolding escape_byte
  event_adds event name_is second =
      subst (λ ms. AddsAfter begin (object ms) old new)
      (λ i. member (codes "args") (list_tree number_tree (args_are i)) (member (codes "event") (string (name_is i)) (member (codes "node") (number_tree (node_is i)) (member (codes "tick") (number_tree (tick_is i)) no_members)))) (
        after old s0 new begin _ begun (after s0 s1 new _ _ first.0 (after s1 s2 new _ _ second.0 (after s2 s3 new _ _ third.0 (after s3 s4 new _ _ last.0 end)))),
        event_sound (list_tree number_tree args) (string name) (number_tree node) (number_tree tick) first.1 second.1 third.1 last.1,
      )

  pub change_adds : (change : ChangeId) → name ≡ change_text script change → AddsAfter (codes ",\"change\":") (string name) s1 s2 → AddsAfter begin (object (do_members script item (Change change))) old new
  unfolding escape_byte
  change_adds change name_is second =
      subst (λ ms. AddsAfter begin (object ms) old new)
      (λ i. member (codes "args") (list_tree number_tree (args_are i)) (member (codes "change") (string (name_is i)) (member (codes "node") (number_tree (node_is i)) (member (codes "tick") (number_tree (tick_is i)) no_members)))) (
        after old s0 new begin _ begun (after s0 s1 new _ _ first.0 (after s1 s2 new _ _ second.0 (after s2 s3 new _ _ third.0 (after s3 s4 new _ _ last.0 end)))),
        change_sound (list_tree number_tree args) (string name) (number_tree node) (number_tree tick) first.1 second.1 third.1 last.1,
      )

-- the members of a script
abbrev pub whole_members : (changes crash decls does events lose micros nodes ticks version : Data) → Members
whole_members changes crash decls does events lose micros nodes ticks version =
    member (codes "changes") changes (member (codes "crash") crash (member (codes "decls") decls (member (codes "do") does (member (codes "events") events
    (member (codes "lose") lose (member (codes "micros") micros (member (codes "nodes") nodes (member (codes "ticks") ticks (member (codes "version") version no_members)))))))))

whole_sound : (d0 d1 d2 d3 d4 d5 d6 d7 d8 d9 : Data) → IsSound d0 → IsSound d1 → IsSound d2 → IsSound d3 → IsSound d4 → IsSound d5 → IsSound d6 → IsSound d7 → IsSound d8 → IsSound d9
    → IsSound (object (whole_members d0 d1 d2 d3 d4 d5 d6 d7 d8 d9))
whole_sound d0 d1 d2 d3 d4 d5 d6 d7 d8 d9 s0 s1 s2 s3 s4 s5 s6 s7 s8 s9 =
    ((s0.0, (s1.0, (s2.0, (s3.0, (s4.0, (s5.0, (s6.0, (s7.0, (s8.0, (s9.0, tt)))))))))), rw (s0.1, s1.1, s2.1, s3.1, s4.1, s5.1, s6.1, s7.1, s8.1, s9.1) refl)

pub whole_adds : (old t0 t1 t2 t3 t4 t5 t6 t7 t8 t9 new : List ℕ) (d0 d1 d2 d3 d4 d5 d6 d7 d8 d9 : Data) → AddsAfter (codes "{\"changes\":") d0 old t0 → AddsAfter (codes ",\"crash\":") d1 t0 t1
    → AddsAfter (codes ",\"decls\":") d2 t1 t2 → AddsAfter (codes ",\"do\":") d3 t2 t3 → AddsAfter (codes ",\"events\":") d4 t3 t4 → AddsAfter (codes ",\"lose\":") d5 t4 t5
    → AddsAfter (codes ",\"micros\":") d6 t5 t6 → AddsAfter (codes ",\"nodes\":") d7 t6 t7 → AddsAfter (codes ",\"ticks\":") d8 t7 t8 → AddsAfter (codes ",\"version\":") d9 t8 t9
    → new ≡ t9 ++ codes "}" → Adds (object (whole_members d0 d1 d2 d3 d4 d5 d6 d7 d8 d9)) old new
unfolding escape_byte
whole_adds old t0 t1 t2 t3 t4 t5 t6 t7 t8 t9 new d0 d1 d2 d3 d4 d5 d6 d7 d8 d9 a0 a1 a2 a3 a4 a5 a6 a7 a8 a9 end = (
  after old t0 new _ _ a0.0 (after t0 t1 new _ _ a1.0 (after t1 t2 new _ _ a2.0 (after t2 t3 new _ _ a3.0 (after t3 t4 new _ _ a4.0 (after t4 t5 new _ _ a5.0
      (after t5 t6 new _ _ a6.0 (after t6 t7 new _ _ a7.0 (after t7 t8 new _ _ a8.0 (after t8 t9 new _ _ a9.0 end))))))))),
  whole_sound d0 d1 d2 d3 d4 d5 d6 d7 d8 d9 a0.1 a1.1 a2.1 a3.1 a4.1 a5.1 a6.1 a7.1 a8.1 a9.1,
)

-- the text of a whole script, with what its lists were read from
pub script_adds : (script : Script) (changes : List ChangeDef) (crashes : List CrashDef) (decls : List DeclDef) (events : List EventDef) (losses : List LossDef) (micros : List MicroDef) (nodes ticks : ℕ)
    → changes ≡ script.changes → crashes ≡ script.crashes → decls ≡ script.decls → events ≡ script.events → losses ≡ script.losses → micros ≡ script.micros → nodes ≡ script.nodes → ticks ≡ script.ticks
    → (old t0 t1 t2 t3 t4 t5 t6 t7 t8 t9 new : List ℕ) → AddsAfter (codes "{\"changes\":") (list_tree (change_tree script) changes) old t0
    → AddsAfter (codes ",\"crash\":") (list_tree crash_tree crashes) t0 t1 → AddsAfter (codes ",\"decls\":") (list_tree (decl_tree script) decls) t1 t2
    → AddsAfter (codes ",\"do\":") (list_tree (do_tree script) script.does) t2 t3 → AddsAfter (codes ",\"events\":") (list_tree (event_tree script) events) t3 t4
    → AddsAfter (codes ",\"lose\":") (list_tree loss_tree losses) t4 t5 → AddsAfter (codes ",\"micros\":") (list_tree (micro_tree script) micros) t5 t6
    → AddsAfter (codes ",\"nodes\":") (number_tree nodes) t6 t7 → AddsAfter (codes ",\"ticks\":") (number_tree ticks) t7 t8 → AddsAfter (codes ",\"version\":") (number_tree 1) t8 t9
    → new ≡ t9 ++ codes "}" → Adds (tree_of script) old new
unfolding tree_of
script_adds script changes crashes decls events losses micros nodes ticks e0 e1 e2 e4 e5 e6 e7 e8 old t0 t1 t2 t3 t4 t5 t6 t7 t8 t9 new a0 a1 a2 a3 a4 a5 a6 a7 a8 a9 end =
    subst (λ ms. Adds (object ms) old new)
    (λ i. whole_members (list_tree (change_tree script) (e0 i)) (list_tree crash_tree (e1 i)) (list_tree (decl_tree script) (e2 i)) (list_tree (do_tree script) script.does)
    (list_tree (event_tree script) (e4 i)) (list_tree loss_tree (e5 i)) (list_tree (micro_tree script) (e6 i)) (number_tree (e7 i)) (number_tree (e8 i)) (number_tree 1))
    (whole_adds old t0 t1 t2 t3 t4 t5 t6 t7 t8 t9 new _ _ _ _ _ _ _ _ _ _ a0 a1 a2 a3 a4 a5 a6 a7 a8 a9 end)
