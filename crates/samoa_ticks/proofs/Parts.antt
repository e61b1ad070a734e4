-- What was written, where a text is written part by part.
use Rattle.std.proofs.Common.{◌≡◌, ℕ, List, ◌++◌, Result, Ok, Err, ap, ◌∙◌, sym, append_assoc}
use Rattle.std.specs.declared.option.Option.{Option}
use Rattle.std.specs.Result.{OnErr, OnOk}
use Rattle.std.specs.Io.KnownBytes.{Appends}
use Rattle.std.proofs.KnownBytes.{Appends-trans}
use Rattle.samoa_ends.specs.Pieces.{AppendsPrefix}

pub on_err : {T E P : Type 0} (r : Result T E) → P → OnErr r P
on_err (Ok x) p = tt
on_err (Err e) p = p

pub at_ok : {T E P : Type 0} (r : Result T E) (x : T) → r ≡ Ok x → OnOk r P → P
at_ok (Ok y) x is p = p
at_ok (Err e) x is p = absurd (cc)

-- a part of the first part
pub part_more : (old new : Option (List ℕ)) (first more : List ℕ) → AppendsPrefix old new first → AppendsPrefix old new (first ++ more)
part_more old new first more p =
    record {
      piece = p.piece;
      appended = p.appended;
      prefix = record {
        rest = p.prefix.rest ++ more;
        whole = ap (λ l. l ++ more) p.prefix.whole ∙ append_assoc p.piece p.prefix.rest more;
      };
    }

-- all of the first part, and a part of what follows
pub part_after : (old mid new : Option (List ℕ)) (first more : List ℕ) → Appends old mid first → AppendsPrefix mid new more → AppendsPrefix old new (first ++ more)
part_after old mid new first more a p =
    record {
      piece = first ++ p.piece;
      appended = Appends-trans old mid new first p.piece a p.appended;
      prefix = record {
        rest = p.prefix.rest;
        whole = ap (λ l. first ++ l) p.prefix.whole ∙ sym (append_assoc first p.piece p.prefix.rest);
      };
    }
