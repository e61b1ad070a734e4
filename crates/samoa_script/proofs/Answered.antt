-- Each list of bytes holds a script or has a fault.
use Rattle.std.proofs.Common.{◌≡◌, ℕ, ◌<◌, ◌≤◌, Bool, true, false, List, length, Option, Some, None, refl, sym, ◌∙◌, inl, inr}
use Rattle.std.specs.Prelude.{◌⊎◌}
use Rattle.std.specs.Str.{IsUtf8, is_utf8}
use Rattle.std.proofs.lemmas.Bool.{cases_lt}
use Rattle.std.proofs.lemmas.Str.{IsUtf8-from_is_utf8, is_utf8-from_IsUtf8}
use Rattle.serde_json.specs.Data.{Data}
use Rattle.serde_json.specs.Read.{read}
use Rattle.samoa_grammar.specs.declared.fault.WalkFault.{WalkFault}
use Rattle.samoa_grammar.specs.declared.fault.WalkFault.TheVariants as walks
use Rattle.samoa_grammar.specs.Tree.{IsJson}
use Rattle.samoa_grammar.specs.Held.{walk_fault, script_meant, WalkFails}
use Rattle.samoa_script.specs.declared.fault.ScriptFault.TheVariants.{TooLong, NotJson, Missing, WrongForm, Unknown, Twice, Over}
use Rattle.samoa_script.specs.Fails.{HasScript, HasFault}

walk_named : (bytes : List ℕ) (f : WalkFault) → WalkFails bytes f → HasFault bytes
walk_named bytes (walks.Missing key) w = record { fault = Missing key; fails = w; own = λ e. cc }
walk_named bytes (walks.WrongForm key) w = record { fault = WrongForm key; fails = w; own = λ e. cc }
walk_named bytes (walks.Unknown name) w = record { fault = Unknown name; fails = w; own = λ e. cc }
walk_named bytes (walks.Twice name) w = record { fault = Twice name; fails = w; own = λ e. cc }
walk_named bytes (walks.Over name limit) w = record { fault = Over name limit; fails = w; own = λ e. cc }

of_walk : (bytes : List ℕ) (d : Data) (o : Option WalkFault) → length bytes ≤ 1048576 → IsJson bytes d → walk_fault d ≡ o → HasScript bytes ⊎ HasFault bytes
of_walk bytes d None short json h = inl (record { script = script_meant d; holds = record { short = short; tree = d; json = json; passes = h; means = refl } })
of_walk bytes d (Some f) short json h = inr (walk_named bytes f (record { short = short; tree = d; json = json; fails = h }))

of_tree : (bytes : List ℕ) (o : Option Data) → length bytes ≤ 1048576 → IsUtf8 bytes → read bytes ≡ o → HasScript bytes ⊎ HasFault bytes
of_tree bytes None short text h =
    inr (record { fault = NotJson; fails = record { short = short; none = λ d json. (let both : None ≡ Some d = sym h ∙ json.1 in cc) }; own = λ e. cc })
of_tree bytes (Some d) short text h = of_walk bytes d (walk_fault d) short (text, h) refl

of_text : (bytes : List ℕ) (b : Bool) → length bytes ≤ 1048576 → is_utf8 bytes ≡ b → HasScript bytes ⊎ HasFault bytes
of_text bytes true short h = of_tree bytes (read bytes) short (IsUtf8-from_is_utf8 bytes h) refl
of_text bytes false short h =
    inr (record { fault = NotJson; fails = record { short = short; none = λ d json. (let both : false ≡ true = sym h ∙ is_utf8-from_IsUtf8 bytes json.0 in cc) }; own = λ e. cc })

of_length : (bytes : List ℕ) → (1048576 < length bytes) ⊎ (length bytes ≤ 1048576) → HasScript bytes ⊎ HasFault bytes
of_length bytes (inl long) = inr (record { fault = TooLong; fails = long; own = λ e. cc })
of_length bytes (inr short) = of_text bytes (is_utf8 bytes) short refl

pub some_answer : (bytes : List ℕ) → HasScript bytes ⊎ HasFault bytes
some_answer bytes = of_length bytes (cases_lt 1048576 (length bytes))
