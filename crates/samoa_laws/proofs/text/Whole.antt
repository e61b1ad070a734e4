-- What the text of computations tells, and a report.
use Rattle.std.proofs.Common.{◌≡◌, refl, sym, ℕ, zero, suc, ◌+◌, ◌<◌, ◌^◌, ◌==◌, Bool, true, false, ◌&&◌, if◌then◌else◌, List, [], ◌∷◌, ◌++◌, map, length, append-nil, decimal}
use Rattle.std.proofs.lemmas.List.{map-append}
use Rattle.samoa_model.specs.declared.record.Ext.{Ext}
use Rattle.samoa_model.specs.declared.record.Entry.{Entry}
use Rattle.samoa_model.specs.declared.script.Script.{Script}
use Rattle.samoa_model.specs.Scripts.{micro_at}
use Rattle.samoa_serial.specs.World.{States}
use Rattle.samoa_serial.specs.Whole.{Ran}
use Rattle.samoa_serial.specs.SerialRun.{Served}
use Rattle.samoa_serial.specs.Lists.{Each}
use Rattle.samoa_serial.specs.Lines.{accepted_text, finished_text, waiting_text, sent_text, asked_text, delivered_text, when_calls, entry_text, ext_text, end_text, state_text, total_text}
use Rattle.samoa_serial.specs.Report.{entries_text, comp_text, comps_text, shown_at, node_text, states_text, is_delivery, is_refusal, entries_of_sort}
use Rattle.samoa_serial.specs.LimitedReport.{end_of_report}
use Rattle.samoa_laws.specs.text.Deliveries.{delivered_by, deliveries_of, texts}
use Rattle.samoa_laws.proofs.text.Tells.{Tells, tells_none, tells_both, tells_as}
use Rattle.samoa_laws.proofs.text.Reports.{IsClean, accepted_tells, finished_tells, refused_tells, waiting_tells, sent_tells, asked_tells, end_tells, state_tells, total_tells}
use Rattle.samoa_laws.proofs.text.Lines.{IsAlone, delivered_tells, ext_tells}

-- ---- computations
module _ (v : ℕ) (script : Script) (clean : IsClean script) (p : ℕ) (alone : IsAlone script p) (calls : Bool) where
  abbrev name : List ℕ
  name = (micro_at script p).name

  call_tells : (here : Bool) (line : List ℕ) → Tells v name here line here [] → Tells v name here (when_calls calls line) here []
  call_tells here line t = go calls
    where
      go : (b : Bool) → Tells v name here (if b then line else []) here []
      go true = t
      go false = tells_none v name here

  abbrev told_of : Bool → List Entry → List (List (List ℕ))
  told_of here es = if here then texts (delivered_by p es) else []

  one_more : (here mine : Bool) (arg : List ℕ) (ds : List (List ℕ))
      → (if mine && here then map decimal arg ∷ [] else []) ++ (if here then texts ds else []) ≡ (if here then texts (if mine then arg ∷ ds else ds) else [])
  one_more true true arg ds = refl
  one_more true false arg ds = refl
  one_more false true arg ds = refl
  one_more false false arg ds = refl

  entries_tell : (here : Bool) (comp : ℕ) (es : List Entry) → Tells v name here (entries_text script comp calls es) here (told_of here es)
  entries_tell true comp [] = tells_none v name true
  entries_tell false comp [] = tells_none v name false
  entries_tell here comp (Entry.Accepted call caller handler arg ∷ es) =
      tells_both v name here (when_calls calls (accepted_text script comp call caller handler arg)) here [] (entries_text script comp calls es) here (told_of here es)
      (call_tells here _ (accepted_tells v name here script clean comp call caller handler arg)) (entries_tell here comp es)
  entries_tell here comp (Entry.Finished call ws ∷ es) =
      tells_both v name here (when_calls calls (finished_text comp call ws)) here [] (entries_text script comp calls es) here (told_of here es)
      (call_tells here _ (finished_tells v name here script clean comp call ws)) (entries_tell here comp es)
  entries_tell here comp (Entry.Refused caller event refusal ∷ es) =
      tells_both v name here (entry_text script comp calls (Entry.Refused caller event refusal)) here [] (entries_text script comp calls es) here (told_of here es)
      (refused_tells v name here script clean comp caller event refusal) (entries_tell here comp es)
  entries_tell here comp (Entry.Waiting call event arg ∷ es) =
      tells_both v name here (when_calls calls (waiting_text script comp call event arg)) here [] (entries_text script comp calls es) here (told_of here es)
      (call_tells here _ (waiting_tells v name here script clean comp call event arg)) (entries_tell here comp es)
  entries_tell here comp (Entry.Sent call to event arg ∷ es) =
      tells_both v name here (when_calls calls (sent_text script comp call to event arg)) here [] (entries_text script comp calls es) here (told_of here es)
      (call_tells here _ (sent_tells v name here script clean comp call to event arg)) (entries_tell here comp es)
  entries_tell here comp (Entry.Asked call change arg ∷ es) =
      tells_both v name here (when_calls calls (asked_text script comp call change.0 arg)) here [] (entries_text script comp calls es) here (told_of here es)
      (call_tells here _ (asked_tells v name here script clean comp call change.0 arg)) (entries_tell here comp es)
  entries_tell here comp (Entry.Delivered call micro arg ∷ es) =
      let first : List (List (List ℕ)) = if (micro.0 == p) && here then map decimal arg ∷ [] else [] in
      tells_as v name here (entries_text script comp calls (Entry.Delivered call micro arg ∷ es)) here (first ++ told_of here es) (told_of here (Entry.Delivered call micro arg ∷ es))
      (one_more here (micro.0 == p) arg (delivered_by p es))
      (tells_both v name here (delivered_text script comp micro.0 arg) here first (entries_text script comp calls es) here (told_of here es)
      (delivered_tells v here script clean p alone comp micro.0 arg) (entries_tell here comp es))

  comp_tells : (here : Bool) (comp : ℕ) (ext : Ext) (ran : Ran) → ext.node.0 < 2 ^ 64
      → Tells v name here (comp_text script calls comp ext ran) (ext.node.0 == v) (told_of (ext.node.0 == v) ran.world.entries)
  unfolding comp_text
  comp_tells here comp ext ran small =
      let at : Bool = ext.node.0 == v in
      let told : List (List (List ℕ)) = told_of at ran.world.entries in
      tells_as v name here (ext_text script comp ext ++ entries_text script comp calls ran.world.entries ++ end_text comp ran.value) at (told ++ []) told (append-nil told)
      (tells_both v name here (ext_text script comp ext ++ entries_text script comp calls ran.world.entries) at told (end_text comp ran.value) at []
      (tells_both v name here (ext_text script comp ext) at [] (entries_text script comp calls ran.world.entries) at told
      (ext_tells v name here script clean comp ext small) (entries_tell at comp ran.world.entries))
      (end_tells v name at script clean comp ran.value))

  -- whether the last of these computations is at the node
  pub last_at : Bool → List Ext → List Ran → Bool
  last_at here [] rans = here
  last_at here (ext ∷ exts) [] = here
  last_at here (ext ∷ exts) (ran ∷ rans) = last_at (ext.node.0 == v) exts rans

  told_more : (at : Bool) (es : List Entry) (ds : List (List ℕ)) → told_of at es ++ texts ds ≡ texts ((if at then delivered_by p es else []) ++ ds)
  told_more true es ds = sym (map-append (λ (w : List ℕ). map decimal w) (delivered_by p es) ds)
  told_more false es ds = refl

  pub comps_tell : (here : Bool) (comp : ℕ) (exts : List Ext) (rans : List Ran) → Each (λ (x : Ext). x.node.0 < 2 ^ 64) exts
      → Tells v name here (comps_text script calls comp exts rans) (last_at here exts rans) (texts (deliveries_of p v exts rans))
  unfolding comps_text last_at
  comps_tell here comp [] rans small = tells_none v name here
  comps_tell here comp (ext ∷ exts) [] small = tells_none v name here
  comps_tell here comp (ext ∷ exts) (ran ∷ rans) small =
      let at : Bool = ext.node.0 == v in
      let told : List (List (List ℕ)) = told_of at ran.world.entries in
      let later : List (List ℕ) = deliveries_of p v exts rans in
      let last : Bool = last_at at exts rans in
      tells_as v name here (comp_text script calls comp ext ran ++ comps_text script calls (comp + 1) exts rans) last (told ++ texts later)
      (texts (deliveries_of p v (ext ∷ exts) (ran ∷ rans)))
      (told_more at ran.world.entries later)
      (tells_both v name here (comp_text script calls comp ext ran) at told (comps_text script calls (comp + 1) exts rans) last (texts later)
      (comp_tells here comp ext ran small.0) (comps_tell at (comp + 1) exts rans small.1))

  -- ---- the end
  node_tells : (here : Bool) (states : ℕ → States) (node q : ℕ) → Tells v name here (node_text script states node q) here []
  unfolding node_text
  node_tells here states node zero = tells_none v name here
  node_tells here states node (suc q) =
      tells_both v name here (node_text script states node q) here [] (state_text script node q (shown_at script states node q)) here []
      (node_tells here states node q) (state_tells v name here script clean node q (shown_at script states node q))

  states_tell : (here : Bool) (states : ℕ → States) (node : ℕ) → Tells v name here (states_text script states node) here []
  unfolding states_text
  states_tell here states zero = tells_none v name here
  states_tell here states (suc node) =
      tells_both v name here (states_text script states node) here [] (node_text script states node (length script.micros)) here []
      (states_tell here states node) (node_tells here states node (length script.micros))

  pub end_tells_none : (here : Bool) (exts : List Ext) (served : Served) → Tells v name here (end_of_report script exts served) here []
  end_tells_none here exts served =
      tells_both v name here (states_text script served.states script.nodes) here []
      (total_text (length exts) (entries_of_sort is_delivery served.comps) (entries_of_sort is_refusal served.comps)) here []
      (states_tell here served.states script.nodes)
      (total_tells v name here (length exts) (entries_of_sort is_delivery served.comps) (entries_of_sort is_refusal served.comps))
