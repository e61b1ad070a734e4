-- The handlers of the calls that wait.
use Rattle.std.proofs.Common.{arith, ◌≡◌, ℕ, ◌+◌, ◌<◌, ◌≤◌, sym, ap, ◌∙◌, ◌∷◌, [], ◌++◌, List, append_assoc, drop, get_or, length, length-append, length-drop}
use Rattle.std.proofs.lemmas.List.{append-nil, drop-drop}
use Rattle.std.proofs.Math.Seq.{drop-append_seam}
use Rattle.samoa_model.specs.declared.ids.HandlerId.{HandlerId}
use Rattle.samoa_model.specs.Scripts.{Table, resolve}
use Rattle.samoa_serial.specs.declared.call.Waiting.{Waiting}
use Rattle.samoa_calls.specs.Held.{handlers_of}
use Rattle.samoa_calls.proofs.Wakes.{waiting_split}

-- the handlers of one more waiting call stand last
pub handlers_of-push : (table : Table) (ws : List Waiting) (w : Waiting) → handlers_of table (ws ++ w ∷ []) ≡ handlers_of table ws ++ resolve table w.event
handlers_of-push table [] w = append-nil (resolve table w.event)
handlers_of-push table (v ∷ vs) w =
    ap (λ (hs : List HandlerId). resolve table v.event ++ hs) (handlers_of-push table vs w)
    ∙ sym (append_assoc (resolve table v.event) (handlers_of table vs) (resolve table w.event))

-- what the list is while the calls are taken out
pub record AreListed (table : Table) (items : List HandlerId) (passed : ℕ) (waiting : List Waiting) : Type 0 where
  pub within : passed ≤ length items
  pub list : drop passed items ≡ handlers_of table waiting

-- the first of the waiting calls is taken out, and its handlers
pub listed_next : (table : Table) (items : List HandlerId) (passed : ℕ) (ws : List Waiting) (i : ℕ) (first : Waiting) (hs : List HandlerId)
    → first ≡ get_or ws i first → i < length ws → hs ≡ resolve table first.event → AreListed table items passed (drop i ws)
    → AreListed table items (passed + length hs) (drop (i + 1) ws)
listed_next table items passed ws i first hs at lt is listed =
    let later : List HandlerId = handlers_of table (drop (i + 1) ws) in
    let split : drop passed items ≡ hs ++ later =
    listed.list
    ∙ (ap (λ (vs : List Waiting). handlers_of table vs) (waiting_split ws i first at lt)
    ∙ ap (λ (xs : List HandlerId). xs ++ later) (sym is)) in
    record {
      within =
          let lengths : length (drop passed items) ≡ length (hs ++ later) = ap (λ (xs : List HandlerId). length xs) split in
          let within : passed ≤ length items = listed.within in
          omega (arith, length-drop passed items, length-append hs later);
      list = sym (drop-drop (length hs) passed items) ∙ (ap (λ (xs : List HandlerId). drop (length hs) xs) split ∙ drop-append_seam hs later);
    }
