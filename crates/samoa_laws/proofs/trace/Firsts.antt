-- The first part of a group history is one.
use Rattle.std.proofs.Common.{◌≡◌, ◌≤◌, sym, ap, subst, ◌∙◌, arith, append_assoc, List, ◌∷◌, ◌++◌, length, length-append}
use Rattle.samoa_model.specs.Range.{IsExtOf}
use Rattle.samoa_model.specs.declared.record.Ext.{Ext}
use Rattle.samoa_model.specs.declared.script.Script.{Script}
use Rattle.samoa_serial.specs.Lists.{Each}
use Rattle.samoa_serial.proofs.RangeLaws.{each_begins}
use Rattle.samoa_laws.specs.trace.Group.{IsGroupHistory}
use Rattle.samoa_laws.specs.lists.Lists.{Begins}

pub first_part : (script : Script) (exts before : List Ext) → IsGroupHistory script exts → Begins before exts → IsGroupHistory script before
first_part script exts before history part = record {
  group = history.group;
  few =
      let most : length exts ≤ 100000 = history.few in
      let whole : length (before ++ part.rest) ≡ length exts = ap (λ (xs : List Ext). length xs) (sym part.is) in
      omega (arith, most, whole, length-append before part.rest);
  known = each_begins (IsExtOf script) before part.rest (subst (Each (IsExtOf script)) part.is history.known);
  allowed = λ earlier ext later e. history.allowed earlier ext (later ++ part.rest)
      (part.is ∙ (ap (λ (xs : List Ext). xs ++ part.rest) e ∙ append_assoc earlier (ext ∷ later) part.rest));
}
