-- Who is asked by the intentions that begin behind an event.
use Rattle.std.proofs.Common.{ℕ, ◌≡◌, ◌==◌, Bool, true, false, cond, not, find, List, [], ◌∷◌, Option, None, Some, All, refl, sym, ap, subst, ◌∙◌}
use Rattle.std.specs.Option.{option_map, unwrap_or}
use Rattle.std.proofs.lemmas.Bool.{and_parts, not-true}
use Rattle.std.proofs.lemmas.List.Elements.{All-filter, All-head, All-nil, All-tail}
use Rattle.std.proofs.lemmas.Option.{none-some, same_Some}
use Rattle.law_frame.specs.pg_run.pg_base.declared.id.FileId.{FileId}
use Rattle.law_frame.specs.pg_run.pg_edges.declared.edge.Edge.{Edge}
use Rattle.law_frame.specs.pg_run.pg_entries.declared.entry.Entry.{Entry}
use Rattle.law_frame.specs.pg_run.pg_intent.declared.intent.Intent.{Intent}
use Rattle.law_frame.specs.pg_run.pg_intent.declared.intent.Intent.TheVariants as intent
use Rattle.law_frame.specs.pg_run.pg_intent.declared.key.IntentKey.TheVariants as intent_key
use Rattle.law_frame.specs.pg_run.pg_intent.Intent.{aimed_at, key_of, rejoined, target_of}
use Rattle.law_frame.specs.pg_run.pg_intent.Intents.{stands}
use Rattle.law_frame.proofs.pg_run.pg_intent.Above.{not_equal}
use Rattle.law_frame.specs.pg_run.pg_msg.declared.work.Work.{Work}
use Rattle.law_frame.specs.pg_run.pg_msg.Work.{with_begun}
use Rattle.law_frame.specs.pg_run.pg_names.declared.attributes.Attributes.{Attributes}
use Rattle.law_frame.specs.pg_run.pg_names.Names.{NamesValue, cell_at, or_blank, own_at}
use Rattle.law_frame.specs.pg_run.pg_register.declared.flag.Flag.{Flag}
use Rattle.law_frame.specs.pg_run.pg_register.Flag.{first_other_gold, is_live, is_removed}
use Rattle.law_frame.specs.pg_run.pg_register.Flag.{is_live_other as is_live_other_flag}
use Rattle.law_frame.specs.pg_run.pg_store.declared.store.Store.{Store}
use Rattle.law_frame.specs.pg_run.pg_store.Births.{with_birth, with_wishes}
use Rattle.law_frame.specs.pg_run.pg_store.Seen.{removed_of, server_of}
use Rattle.law_frame.specs.pg_run.pg_store.Servers.{next_target}
use Rattle.law_frame.specs.pg_run.pg_store.Wishes.{without_wish}
use Rattle.law_frame.specs.pg_run.pg_pieces.Done.{Done, idle}
use Rattle.law_frame.specs.pg_run.pg_pieces.Golds.{flags_of}
use Rattle.law_frame.specs.pg_run.pg_intentions.Beginning.{begin_end, still_stands}
use Rattle.law_frame.specs.pg_run.pg_intentions.Confirms.{confirm_of, holder_by}
use Rattle.law_frame.specs.pg_run.pg_intentions.Fills.{fill_of, files_to_fill, with_fill_birth}
use Rattle.law_frame.specs.pg_run.pg_intentions.Intending.{begin_intent, with_begun_if}
use Rattle.law_frame.specs.pg_run.pg_intentions.Patches.{patch_of}
use Rattle.law_frame.specs.pg_run.pg_graph.Walks.{edges_of}
use Rattle.law_frame.specs.pg_run.pg_intentions.Seeks.{is_apart, seek_target, target_or_next}
use Rattle.law_frame.proofs.pg_run.theory_flood_pieces.Choices.{chosen}
use Rattle.law_frame.proofs.Ended.{fill_born, intents_keep}
use Rattle.law_order.specs.Named.{IsOfServer}
use Rattle.law_order.proofs.Intended.{all_begun, all_changed}
use Rattle.law_intents.proofs.Aimed.{first_aims, next_aims}
use Rattle.law_intents.proofs.Far.{Aims, AreAimed, IsLive, aimed_target}

-- ---- who is asked by what begins

pub rejoined_target : (held i : Intent) → target_of (rejoined held i) ≡ target_of held
rejoined_target (intent.Patch d e t) (intent.Patch dir entry target) = refl
rejoined_target (intent.Patch d e t) i = refl
rejoined_target (intent.Bye file birth peer peer_birth) i = refl
rejoined_target (intent.Seek file target) i = refl
rejoined_target (intent.Fill file birth target) i = refl
rejoined_target (intent.Confirm dir child target) i = refl
rejoined_target (intent.Leave file peer peer_birth) i = refl

-- all known flags are of the run's servers: of things, and in cells
pub record FlagsAreOfServers (n : ℕ) (m : NamesValue) : Type 0 where
  pub own : (file : FileId) (own : Attributes) → own_at m file ≡ Some own → All (IsOfServer n) own.flags
  pub cells : (dir child : FileId) (e : Entry) → cell_at m dir child ≡ Some e → All (IsOfServer n) e.flags

pub record IsAiming (n s : ℕ) (r : List ℕ) (b : Store) (w : Work) : Type 0 where
  pub servers : b.servers ≡ n
  pub server : server_of b ≡ s
  pub removed : removed_of b ≡ r
  pub from : Aims n s r w.from
  pub flags : FlagsAreOfServers n b.names
  pub aims : AreAimed n s r b.intents

module _ (n s : ℕ) (r : List ℕ) where
  begun_from : (t : Bool) (w : Work) (i : Intent) → (with_begun_if t w (key_of i)).from ≡ w.from
  begun_from t w i = chosen (λ (v : Work). v.from ≡ w.from) t (with_begun w (key_of i)) w refl refl

  aiming_begun : (b : Store) (i : Intent) (w : Work) → IsAiming n s r b w → Aims n s r (target_of i) → IsAiming n s r (begin_intent b i w).store (begin_intent b i w).work
  aiming_begun b i w k here = record {
    servers = k.servers;
    server = k.server;
    removed = k.removed;
    from = subst (Aims n s r) (sym (begun_from (not (stands b.intents (key_of i))) w i)) k.from;
    flags = k.flags;
    aims = all_begun (λ (j : Intent). Aims n s r (target_of j)) b.intents i k.aims here
        (λ held same was. subst (Aims n s r) (sym (rejoined_target held i)) was);
  }

  -- births and wishes do not count
  aiming_beside : (b c : Store) (w : Work) → c.servers ≡ b.servers → c.names ≡ b.names → c.intents ≡ b.intents → IsAiming n s r b w → IsAiming n s r c w
  aiming_beside b c w servers names intents k = record {
    servers = servers ∙ k.servers;
    server = ap (λ (m : NamesValue). m.server) names ∙ k.server;
    removed = ap (λ (m : NamesValue). m.removed) names ∙ k.removed;
    from = k.from;
    flags = subst (FlagsAreOfServers n) (sym names) k.flags;
    aims = subst (AreAimed n s r) (sym intents) k.aims;
  }

  -- a live flag of another server
  live_flag : (flag : Flag) → IsOfServer n flag → is_live_other_flag s r flag ≡ true → IsLive n s r flag.server
  live_flag flag here is =
      let parts = and_parts (is_live r flag) (not (flag.server == s)) is in
      let live = and_parts flag.raised (not (is_removed r flag.server)) parts.0 in
      record {
        other = record { least = here.least; most = here.most; apart = not_equal flag.server s parts.1 };
        stays = not-true (is_removed r flag.server) live.1;
      }

  -- the holder of a child
  found_gold : (flags : List Flag) (t : ℕ) → All (IsOfServer n) flags → first_other_gold s r flags ≡ Some t → IsLive n s r t
  found_gold [] t all h = absurd (none-some t h)
  found_gold (flag ∷ flags) t all h =
      by (is_live_other_flag s r flag) refl (found_gold flags t (All-tail (IsOfServer n) flag flags all)) h
    where
      by : (u : Bool) → is_live_other_flag s r flag ≡ u → (first_other_gold s r flags ≡ Some t → IsLive n s r t)
          → option_map (λ (f : Flag). f.server) (cond u (Some flag) (find (is_live_other_flag s r) flags)) ≡ Some t → IsLive n s r t
      by true is more e =
          subst (IsLive n s r) (same_Some flag.server t e) (live_flag flag (All-head (IsOfServer n) flag flags all) is)
      by false is more e = more e

  -- in its own view
  gold_here : (b : Store) (flags : List Flag) → server_of b ≡ s → removed_of b ≡ r
      → first_other_gold s r flags ≡ first_other_gold (server_of b) (removed_of b) flags
  gold_here b flags server removed =
      sym (ap (λ (l : List ℕ). first_other_gold s l flags) removed) ∙ sym (ap (λ (j : ℕ). first_other_gold j (removed_of b) flags) server)

  holder_of : (b : Store) (next : ℕ) (flags : List Flag) (o : Option ℕ) → first_other_gold (server_of b) (removed_of b) flags ≡ o → server_of b ≡ s
      → removed_of b ≡ r → All (IsOfServer n) flags → Aims n s r next → Aims n s r (unwrap_or o next)
  holder_of b next flags None at server removed all here = here
  holder_of b next flags (Some t) at server removed all here = λ some. found_gold flags t all (gold_here b flags server removed ∙ at)

  holder_by_aims : (b : Store) (dir child : FileId) (next : ℕ) (o : Option Entry) → cell_at b.names dir child ≡ o → server_of b ≡ s → removed_of b ≡ r
      → FlagsAreOfServers n b.names → Aims n s r next → Aims n s r (holder_by b next o)
  holder_by_aims b dir child next None at server removed all here = here
  holder_by_aims b dir child next (Some e) at server removed all here =
      holder_of b next e.flags (first_other_gold (server_of b) (removed_of b) e.flags) refl server removed (all.cells dir child e at) here

  -- a gold replica to which there is no edge
  found_apart : (edges : List Edge) (flags : List Flag) (flag : Flag) → All (IsOfServer n) flags
      → find (is_apart s r edges) flags ≡ Some flag → IsLive n s r flag.server
  found_apart edges [] flag all h = absurd (none-some flag h)
  found_apart edges (g ∷ gs) flag all h =
      by (is_apart s r edges g) refl (found_apart edges gs flag (All-tail (IsOfServer n) g gs all)) h
    where
      by : (t : Bool) → is_apart s r edges g ≡ t → (find (is_apart s r edges) gs ≡ Some flag → IsLive n s r flag.server)
          → cond t (Some g) (find (is_apart s r edges) gs) ≡ Some flag → IsLive n s r flag.server
      by true is more e =
          subst (λ (x : Flag). IsLive n s r x.server) (same_Some g flag e)
          (live_flag g (All-head (IsOfServer n) g gs all) (and_parts (is_live_other_flag s r g) _ is).0)
      by false is more e = more e

  known_flags : (b : Store) (f : FileId) (o : Option Attributes) → own_at b.names f ≡ o → FlagsAreOfServers n b.names → All (IsOfServer n) (or_blank f o).flags
  known_flags b f None at all = All-nil (IsOfServer n)
  known_flags b f (Some own) at all = all.own f own at

  apart_here : (b : Store) (f : FileId) → server_of b ≡ s → removed_of b ≡ r
      → find (is_apart s r (edges_of b f)) (flags_of b f) ≡ find (is_apart (server_of b) (removed_of b) (edges_of b f)) (flags_of b f)
  apart_here b f server removed =
      sym (ap (λ (l : List ℕ). find (is_apart s l (edges_of b f)) (flags_of b f)) removed)
      ∙ sym (ap (λ (j : ℕ). find (is_apart j (removed_of b) (edges_of b f)) (flags_of b f)) server)

  seek_by : (b : Store) (f : FileId) (o : Option Flag) → find (is_apart (server_of b) (removed_of b) (edges_of b f)) (flags_of b f) ≡ o
      → b.servers ≡ n → server_of b ≡ s → removed_of b ≡ r → FlagsAreOfServers n b.names → Aims n s r (target_or_next b o)
  seek_by b f None at servers server removed all = next_aims n s r b servers server removed (server_of b)
  seek_by b f (Some flag) at servers server removed all = λ some.
      found_apart (edges_of b f) (flags_of b f) flag (known_flags b f (own_at b.names f) refl all) (apart_here b f server removed ∙ at)

  seek_aims : (b : Store) (f : FileId) (w : Work) → IsAiming n s r b w → Aims n s r (seek_target b f)
  seek_aims b f w k =
      seek_by b f (find (is_apart (server_of b) (removed_of b) (edges_of b f)) (flags_of b f)) refl k.servers k.server k.removed k.flags

  pub end_aiming : (a : Store) (w : Work) → IsAiming n s r a w → IsAiming n s r (begin_end a w).store (begin_end a w).work
  end_aiming a w =
      intents_keep (idle a w) (λ (d : Done). IsAiming n s r d.store d.work) (record {
        ends = λ k. record {
          servers = k.servers;
          server = k.server;
          removed = k.removed;
          from = k.from;
          flags = k.flags;
          aims = All-filter (still_stands a (files_to_fill a.names)) (λ (j : Intent). Aims n s r (target_of j)) a.intents k.aims;
        };
        patches = λ d slot is k.
            aiming_begun d.store (patch_of d.store slot d.work) d.work k (first_aims n s r d.store k.servers k.server k.removed d.work.from k.from);
        fills = λ d file none k. (
            let b = d.store in
            let c = with_fill_birth b file in
            let ready = fill_born (λ (x : Store). IsAiming n s r x d.work) b file k (aiming_beside b (with_birth b) d.work refl refl refl k)
            (aiming_beside b (with_wishes b (without_wish b.wishes file)) d.work refl refl refl k) in
            aiming_begun c (fill_of b file d.work) d.work ready (first_aims n s r c ready.servers ready.server ready.removed d.work.from k.from));
        seeks = λ d file is k. aiming_begun d.store (intent.Seek file (seek_target d.store file)) d.work k (seek_aims d.store file d.work k);
        aims_seek = λ d file k. record {
          servers = k.servers;
          server = k.server;
          removed = k.removed;
          from = k.from;
          flags = k.flags;
          aims = all_changed (λ (i : Intent). Aims n s r (target_of i)) (aimed_at (seek_target d.store file)) (intent_key.Seek file)
              (λ held same was. aimed_target n s r (seek_target d.store file) held (seek_aims d.store file d.work k) was) d.store.intents k.aims;
        };
        confirms = λ d slot is k.
            aiming_begun d.store (confirm_of d.store slot) d.work k
            (holder_by_aims d.store slot.dir slot.child (next_target d.store (server_of d.store)) (cell_at d.store.names slot.dir slot.child) refl k.server k.removed
            k.flags (next_aims n s r d.store k.servers k.server k.removed (server_of d.store)));
      })
