-- The laws on the written text.
use Rattle.std.proofs.Common.{◌≡◌, refl, sym, ap, subst, ◌∙◌, ℕ, ◌<◌, ◌≤◌, ◌^◌, ◌==◌, arith, Bool, true, false, if◌then◌else◌, List, [], ◌∷◌, ◌++◌, length, map, append_assoc, append-nil, codes, decimal, ◌||◌, Option, ◌⊎◌, inl, inr}
use Rattle.std.specs.List.{list_any}
use Rattle.std.specs.Io.KnownBytes.{Appends}
use Rattle.samoa_ends.specs.Pieces.{AppendsPrefix}
use Rattle.samoa_model.specs.Range.{IsInRange, IsExtOf}
use Rattle.samoa_model.specs.Scripts.{micro_at}
use Rattle.samoa_model.specs.declared.record.Entry.{Entry}
use Rattle.samoa_model.specs.declared.record.Ext.{Ext}
use Rattle.samoa_model.specs.declared.script.Script.{Script}
use Rattle.samoa_serial.specs.Lists.{Each}
use Rattle.samoa_serial.specs.Whole.{Ran}
use Rattle.samoa_serial.specs.SerialRun.{Served, serial}
use Rattle.samoa_serial.specs.Lines.{total_text}
use Rattle.samoa_serial.specs.Report.{comps_text, states_text, is_delivery, is_refusal, entries_of_sort, report_of}
use Rattle.samoa_serial.specs.Ticks.{admitted, admitted_to, is_limited_to}
use Rattle.samoa_serial.specs.LimitedReport.{end_of_report, limit_text, report_in_full, report_to}
use Rattle.samoa_serial.proofs.ListLaws.{each_weaker}
use Rattle.samoa_serial.proofs.RangeLaws.{admitted_in_range}
use Rattle.samoa_serial.proofs.CodeLaws.{entries_are_known}
use Rattle.samoa_laws.specs.trace.Group.{IsGroup, IsGroupHistory}
use Rattle.samoa_laws.proofs.trace.Admitted.{admitted_is_group_history}
use Rattle.samoa_laws.proofs.lists.Lists.{comparable_begins, comparable_map}
use Rattle.samoa_laws.specs.lists.Lists.{Begins, Comparable, IsApart}
use Rattle.samoa_laws.specs.streams.Streams.{delivered_at, delivered_in, stream_at}
use Rattle.samoa_laws.proofs.streams.Order.{comparable}
use Rattle.samoa_laws.proofs.streams.Owed.{are_submitted, keeps_order}
use Rattle.samoa_laws.specs.text.Told.{alike, told_at}
use Rattle.samoa_laws.specs.text.Deliveries.{HasNames, deliveries, deliveries_of, delivered_by, texts}
use Rattle.samoa_laws.specs.text.Clause.{IsMute, TellsOneOrder, AppendsOneOrder, stream_in}
use Rattle.samoa_laws.proofs.text.Tells.{TellsNone, mute_tells, none_then, tells_nothing, Tells, told_prefix}
use Rattle.samoa_laws.proofs.text.Reports.{IsClean, limit_tells}
use Rattle.samoa_laws.proofs.text.Lines.{IsAlone}
use Rattle.samoa_laws.proofs.text.Whole.{comps_tell, end_tells_none, last_at}
use Rattle.samoa_laws.proofs.text.Names.{alone_group, alone_names, clean_group, clean_names, repl_name}
use Rattle.samoa_laws.proofs.text.Small.{stream_apart}

-- ---- all that is delivered is told
module _ (script : Script) (clean : IsClean script) (p : ℕ) (alone : IsAlone script p) (v : ℕ) (calls : Bool) where
  tells_with : (exts : List Ext) (end : List ℕ) → Each (λ (x : Ext). x.node.0 < 2 ^ 64) exts → TellsNone v (micro_at script p).name end
      → told_at v (micro_at script p).name (comps_text script calls 1 exts (serial script exts).comps ++ end) ≡ texts (deliveries script exts p v)
  tells_with exts end small none =
      let rans : List Ran = (serial script exts).comps in
      let told : List (List (List ℕ)) = texts (deliveries script exts p v) in
      comps_tell v script clean p alone calls false 1 exts rans small end
      ∙ (ap (λ (ms : List (List (List ℕ))). told ++ ms) (none (last_at v script clean p alone calls false exts rans)) ∙ append-nil told)

  told_report_of : (exts : List Ext) → Each (λ (x : Ext). x.node.0 < 2 ^ 64) exts
      → told_at v (micro_at script p).name (report_of script calls exts) ≡ texts (deliveries script exts p v)
  unfolding report_of
  told_report_of exts small =
      ap (λ (text : List ℕ). told_at v (micro_at script p).name text)
      (append_assoc (comps_text script calls 1 exts (serial script exts).comps) (states_text script (serial script exts).states script.nodes)
      (total_text (length exts) (entries_of_sort is_delivery (serial script exts).comps) (entries_of_sort is_refusal (serial script exts).comps)))
      ∙ tells_with exts (end_of_report script exts (serial script exts)) small
      (tells_nothing v (micro_at script p).name (end_of_report script exts (serial script exts)) (λ here. end_tells_none v script clean p alone calls here exts (serial script exts)))

  -- after the computations: the limit's line, or the end
  end_of : (most : ℕ) (b here : Bool)
      → Tells v (micro_at script p).name here (if b then limit_text most else end_of_report script (admitted_to most script) (serial script (admitted_to most script))) here []
  end_of most true here = limit_tells v (micro_at script p).name here most
  end_of most false here = end_tells_none v script clean p alone calls here (admitted_to most script) (serial script (admitted_to most script))

  told_report_to : (most : ℕ) → Each (λ (x : Ext). x.node.0 < 2 ^ 64) (admitted_to most script)
      → told_at v (micro_at script p).name (report_to most script calls) ≡ texts (deliveries script (admitted_to most script) p v)
  unfolding report_to
  told_report_to most small =
      let served : Served = serial script (admitted_to most script) in
      let end : List ℕ = if is_limited_to most script then limit_text most else end_of_report script (admitted_to most script) served in
      tells_with (admitted_to most script) end small (tells_nothing v (micro_at script p).name end (end_of most (is_limited_to most script)))

  -- and then a text that tells nothing
  told_with_more : (most : ℕ) (more : List ℕ) → IsMute more → Each (λ (x : Ext). x.node.0 < 2 ^ 64) (admitted_to most script)
      → told_at v (micro_at script p).name (report_to most script calls ++ more) ≡ texts (deliveries script (admitted_to most script) p v)
  unfolding report_to
  told_with_more most more mute small =
      let served : Served = serial script (admitted_to most script) in
      let end : List ℕ = if is_limited_to most script then limit_text most else end_of_report script (admitted_to most script) served in
      ap (λ (text : List ℕ). told_at v (micro_at script p).name text) (append_assoc (comps_text script calls 1 (admitted_to most script) served.comps) end more)
      ∙ tells_with (admitted_to most script) (end ++ more) small
      (none_then v (micro_at script p).name end more (end_of most (is_limited_to most script)) (mute_tells v (micro_at script p).name more mute))

node_below : (script : Script) → IsInRange script → (exts : List Ext) → Each (IsExtOf script) exts → Each (λ (x : Ext). x.node.0 < 2 ^ 64) exts
node_below script range exts known =
    each_weaker (IsExtOf script) (λ (x : Ext). x.node.0 < 2 ^ 64)
    (λ x is. let few : script.nodes ≤ 8 = range.few_nodes in let less : x.node.0 < script.nodes = is.node in omega (arith, few, less)) exts known

pub all_told : (script : Script) (calls : Bool) (exts : List Ext) (p v : ℕ) → IsInRange script → HasNames script → p < length script.micros → Each (IsExtOf script) exts
    → told_at v (micro_at script p).name (report_of script calls exts) ≡ texts (deliveries script exts p v)
all_told script calls exts p v range names there known =
    told_report_of script (clean_names script names) p (alone_names script names p there) v calls exts (node_below script range exts known)

pub all_told_to : (most : ℕ) (script : Script) (calls : Bool) (p v : ℕ) → IsInRange script → HasNames script → p < length script.micros
    → told_at v (micro_at script p).name (report_to most script calls) ≡ texts (deliveries script (admitted_to most script) p v)
all_told_to most script calls p v range names there =
    told_report_to script (clean_names script names) p (alone_names script names p there) v calls most
    (node_below script range (admitted_to most script) (admitted_in_range most script range (entries_are_known script range)))

-- ---- the group stack
delivered_same : (es : List Entry) → delivered_by 6 es ≡ delivered_in es
delivered_same [] = refl
delivered_same (Entry.Delivered call micro arg ∷ es) = ap (λ (ws : List (List ℕ)). if micro.0 == 6 then arg ∷ ws else ws) (delivered_same es)
delivered_same (Entry.Accepted number caller handler arg ∷ es) = delivered_same es
delivered_same (Entry.Refused caller event refusal ∷ es) = delivered_same es
delivered_same (Entry.Waiting call event arg ∷ es) = delivered_same es
delivered_same (Entry.Finished call reply ∷ es) = delivered_same es
delivered_same (Entry.Sent call to event arg ∷ es) = delivered_same es
delivered_same (Entry.Asked call change arg ∷ es) = delivered_same es

deliveries_same : (v : ℕ) (exts : List Ext) (rans : List Ran) → deliveries_of 6 v exts rans ≡ delivered_at v exts rans
deliveries_same v [] rans = refl
deliveries_same v (ext ∷ exts) [] = refl
deliveries_same v (ext ∷ exts) (ran ∷ rans) =
    ap (λ (ws : List (List ℕ)). (if ext.node.0 == v then ws else []) ++ deliveries_of 6 v exts rans) (delivered_same ran.world.entries)
    ∙ ap (λ (ws : List (List ℕ)). (if ext.node.0 == v then delivered_in ran.world.entries else []) ++ ws) (deliveries_same v exts rans)

module _ (script : Script) (group : IsGroup script) (range : IsInRange script) (calls : Bool) where
  pub report_streams : (exts : List Ext) → IsGroupHistory script exts → (v : ℕ) → stream_in (report_of script calls exts) v ≡ texts (stream_at script exts v)
  report_streams exts history v =
      ap (λ (name : List ℕ). told_at v name (report_of script calls exts)) (sym (repl_name script group))
      ∙ (told_report_of script (clean_group script group) 6 (alone_group script group) v calls exts (node_below script range exts history.known)
      ∙ ap (λ (ws : List (List ℕ)). texts ws) (deliveries_same v exts (serial script exts).comps))

  pub full_streams : (v : ℕ) → stream_in (report_in_full script calls) v ≡ texts (stream_at script (admitted script) v)
  full_streams v =
      ap (λ (name : List ℕ). told_at v name (report_in_full script calls)) (sym (repl_name script group))
      ∙ (told_report_to script (clean_group script group) 6 (alone_group script group) v calls 100000
      (node_below script range (admitted script) (admitted_is_group_history script group range).known)
      ∙ ap (λ (ws : List (List ℕ)). texts ws) (deliveries_same v (admitted script) (serial script (admitted script)).comps))

  -- also where a text follows that tells nothing
  pub followed_streams : (more : List ℕ) → IsMute more → (v : ℕ) → stream_in (report_in_full script calls ++ more) v ≡ texts (stream_at script (admitted script) v)
  followed_streams more mute v =
      ap (λ (name : List ℕ). told_at v name (report_in_full script calls ++ more)) (sym (repl_name script group))
      ∙ (told_with_more script (clean_group script group) 6 (alone_group script group) v calls 100000 more mute
      (node_below script range (admitted script) (admitted_is_group_history script group range).known)
      ∙ ap (λ (ws : List (List ℕ)). texts ws) (deliveries_same v (admitted script) (serial script (admitted script)).comps))

-- the first elements of what stands apart
none_first : {A : Type 0} (test : A → Bool) (xs ys : List A) → list_any test (xs ++ ys) ≡ false → list_any test xs ≡ false
none_first test [] ys h = refl
none_first test (x ∷ xs) ys h = go (test x) (λ rest. none_first test xs ys rest) h
  where
    go : (b : Bool) → (list_any test (xs ++ ys) ≡ false → list_any test xs ≡ false) → (b || list_any test (xs ++ ys)) ≡ false → (b || list_any test xs) ≡ false
    go true more rest = rest
    go false more rest = more rest

apart_first : {A : Type 0} (same : A → A → Bool) (xs ys : List A) → IsApart same (xs ++ ys) → IsApart same xs
apart_first same [] ys h = tt
apart_first same (x ∷ xs) ys h = (none_first (λ y. same x y) xs ys h.0, apart_first same xs ys h.1)

-- beginnings of two such texts
module _ (script : Script) (range : IsInRange script) (exts : List Ext) (history : IsGroupHistory script exts) where
  pub begin_comparable : (first whole second other : List ℕ) (v u : ℕ) → stream_in whole v ≡ texts (stream_at script exts v) → stream_in other u ≡ texts (stream_at script exts u)
      → Begins first whole → Begins second other → Comparable (stream_in first v) (stream_in second u)
  begin_comparable first whole second other v u is also p q =
      comparable_begins (texts (stream_at script exts v)) (texts (stream_at script exts u)) (stream_in first v) (stream_in second u)
      (comparable_map (λ (w : List ℕ). map decimal w) (stream_at script exts v) (stream_at script exts u)
      (comparable script exts history (keeps_order script exts history) (are_submitted script exts history) v u))
      (subst (λ (ws : List (List (List ℕ))). Begins (stream_in first v) ws) is (told_prefix v (codes "repl") first whole p))
      (subst (λ (ws : List (List (List ℕ))). Begins (stream_in second u) ws) also (told_prefix u (codes "repl") second other q))

  pub begin_apart : (first whole : List ℕ) (v : ℕ) → stream_in whole v ≡ texts (stream_at script exts v) → Begins first whole → IsApart alike (stream_in first v)
  begin_apart first whole v is p =
      let told : Begins (stream_in first v) (texts (stream_at script exts v)) =
      subst (λ (ws : List (List (List ℕ))). Begins (stream_in first v) ws) is (told_prefix v (codes "repl") first whole p) in
      apart_first alike (stream_in first v) told.rest (subst (λ (ws : List (List (List ℕ))). IsApart alike ws) told.is (stream_apart script exts v range history))

module _ (script : Script) (group : IsGroup script) (range : IsInRange script) where
  pub written_comparable : (calls others : Bool) (first second : List ℕ) (v u : ℕ) → Begins first (report_in_full script calls) → Begins second (report_in_full script others)
      → Comparable (stream_in first v) (stream_in second u)
  written_comparable calls others first second v u p q =
      begin_comparable script range (admitted script) (admitted_is_group_history script group range) first (report_in_full script calls) second (report_in_full script others) v u
      (full_streams script group range calls v) (full_streams script group range others u) p q

  pub written_apart : (calls : Bool) (first : List ℕ) (v : ℕ) → Begins first (report_in_full script calls) → IsApart alike (stream_in first v)
  written_apart calls first v p =
      begin_apart script range (admitted script) (admitted_is_group_history script group range) first (report_in_full script calls) v (full_streams script group range calls v) p

  -- a beginning of a text that tells the streams
  one_order : (first whole : List ℕ) → ((v : ℕ) → stream_in whole v ≡ texts (stream_at script (admitted script) v)) → Begins first whole → TellsOneOrder first
  one_order first whole tells p =
      let history : IsGroupHistory script (admitted script) = admitted_is_group_history script group range in
      record {
        order = λ v u. begin_comparable script range (admitted script) history first whole first whole v u (tells v) (tells u) p p;
        apart = λ v. begin_apart script range (admitted script) history first whole v (tells v) p;
      }

  pub appends_order : (calls : Bool) (old new : Option (List ℕ)) → AppendsPrefix old new (report_in_full script calls) → AppendsOneOrder old new
  appends_order calls old new written = record {
    piece = written.piece;
    appended = written.appended;
    told = one_order written.piece (report_in_full script calls) (full_streams script group range calls) (record { rest = written.prefix.rest; is = written.prefix.whole });
  }

  pub appends_order_then : (calls : Bool) (more : List ℕ) (old new : Option (List ℕ)) → IsMute more → AppendsPrefix old new (report_in_full script calls ++ more) → AppendsOneOrder old new
  appends_order_then calls more old new mute written = record {
    piece = written.piece;
    appended = written.appended;
    told = one_order written.piece (report_in_full script calls ++ more) (followed_streams script group range calls more mute) (record { rest = written.prefix.rest; is = written.prefix.whole });
  }

  -- at any status a prefix of what is due was appended
  pub answers_agree : (due status : ℕ) (calls : Bool) (old new : Option (List ℕ)) → (status ≡ due → Appends old new (report_in_full script calls))
      → (status ≡ 5 → AppendsPrefix old new (report_in_full script calls)) → (status ≡ 6 → AppendsPrefix old new (report_in_full script calls)) → (status ≡ 4 → Appends old new [])
      → (status ≡ due) ⊎ ((status ≡ 4) ⊎ ((status ≡ 5) ⊎ (status ≡ 6))) → AppendsOneOrder old new
  answers_agree due status calls old new whole failed memory unread which = appends_order calls old new (go which)
    where
      go : (status ≡ due) ⊎ ((status ≡ 4) ⊎ ((status ≡ 5) ⊎ (status ≡ 6))) → AppendsPrefix old new (report_in_full script calls)
      go (inl is) = record { piece = report_in_full script calls; appended = whole is; prefix = record { rest = []; whole = sym (append-nil (report_in_full script calls)) } }
      go (inr (inl is)) = record { piece = []; appended = unread is; prefix = record { rest = report_in_full script calls; whole = refl } }
      go (inr (inr (inl is))) = failed is
      go (inr (inr (inr is))) = memory is

-- a beginning of a text that tells nothing tells nothing
nothing_before : (ms : List (List (List ℕ))) → Begins ms [] → ms ≡ []
nothing_before [] p = refl
nothing_before (m ∷ ms) p = absurd (cc)

pub mute_order : (text : List ℕ) (old new : Option (List ℕ)) → IsMute text → AppendsPrefix old new text → AppendsOneOrder old new
mute_order text old new mute written =
    let none : (v : ℕ) → stream_in written.piece v ≡ [] = λ v.
    nothing_before (stream_in written.piece v)
    (subst (λ (ms : List (List (List ℕ))). Begins (stream_in written.piece v) ms) (mute_tells v (codes "repl") text mute false)
    (told_prefix v (codes "repl") written.piece text (record { rest = written.prefix.rest; is = written.prefix.whole }))) in
    record {
      piece = written.piece;
      appended = written.appended;
      told = record {
        order = λ v u. inl (record { rest = stream_in written.piece u; is = ap (λ (ms : List (List (List ℕ))). ms ++ stream_in written.piece u) (sym (none v)) });
        apart = λ v. subst (IsApart alike) (sym (none v)) tt;
      };
    }

-- the same of the report of any group history
module _ (script : Script) (range : IsInRange script) (exts : List Ext) (history : IsGroupHistory script exts) where
  pub history_comparable : (calls others : Bool) (first second : List ℕ) (v u : ℕ) → Begins first (report_of script calls exts) → Begins second (report_of script others exts)
      → Comparable (stream_in first v) (stream_in second u)
  history_comparable calls others first second v u p q =
      begin_comparable script range exts history first (report_of script calls exts) second (report_of script others exts) v u
      (report_streams script history.group range calls exts history v) (report_streams script history.group range others exts history u) p q

  pub history_apart : (calls : Bool) (first : List ℕ) (v : ℕ) → Begins first (report_of script calls exts) → IsApart alike (stream_in first v)
  history_apart calls first v p =
      begin_apart script range exts history first (report_of script calls exts) v (report_streams script history.group range calls exts history v) p
