-- What one server shows of a thing is the state of what its replica took.
use Rattle.std.proofs.Common.{ℕ, ◌≡◌, ◌≤◌, true, false, List, [], ◌∷◌, Option, None, Some, is_some, length, map, take, min, refl, sym, ap, ◌∙◌}
use Rattle.std.specs.Prelude.{◌-◌, ◌^◌}
use Rattle.std.proofs.lemmas.Bool.{false≢true}
use Rattle.std.proofs.lemmas.Option.{none-some}
use Rattle.pg_run.specs.pg_base.declared.id.FileId.{FileId}
use Rattle.pg_run.specs.pg_base.declared.id.Kind.{Kind}
use Rattle.pg_run.specs.pg_base.declared.id.Kind.TheVariants.{Dir, File}
use Rattle.pg_run.specs.pg_base.Version.{stamp_of}
use Rattle.pg_run.specs.pg_content.Content.{ContentValue, shown_bytes}
use Rattle.pg_run.specs.pg_entries.Entry.{count_listed, is_listed_entry}
use Rattle.pg_run.specs.pg_event.declared.event.Event.{Event}
use Rattle.pg_run.specs.pg_names.declared.attributes.Attributes.{Attributes}
use Rattle.pg_run.specs.pg_names.Names.{InodeValue, entry_in, is_full_of, known, or_blank, own_of}
use Rattle.pg_run.specs.pg_register.Flag.{is_raised}
use Rattle.pg_run.specs.pg_replica.declared.replica.Replica.{Replica}
use Rattle.pg_run.specs.pg_replica.Replicas.{or_nothing}
use Rattle.pg_run.specs.pg_store.declared.store.Store.{Store}
use Rattle.pg_run.specs.pg_store.Store.{content_of, replica_at, replica_of}
use Rattle.pg_run.specs.theory_flood_pieces.Whole.{IsWhole}
use Rattle.pg_run.specs.Laws.{HoldsWhatItTook, KnowsWhatItTook, content_taken}
use Rattle.pg_run.specs.Run.{World, run}
use Rattle.pg_run.specs.State.{own_state}
use Rattle.pg_run.specs.Took.{is_held}
use Rattle.law_order.specs.Laws.{AreById}
use Rattle.pg_trace.specs.declared.journal_line.JournalLine.{JournalLine}
use Rattle.pg_trace.specs.declared.journal_line.JournalLine.TheVariants as printed
use Rattle.pg_trace.specs.declared.replica.ShownReplica.{ShownReplica}
use Rattle.pg_replay.specs.Shown.{contents_at, held_lines, lines_of, shown_of}
use Rattle.law_shows.specs.Shows.{CountsChildren, ShowsContent, ShowsState}
use Rattle.law_shows.proofs.Counted.{as_many, children, each_once, listed}

replica_there : (o : Option Replica) → is_some o ≡ true → (x : Replica) × (o ≡ Some x)
replica_there None h = absurd (false≢true h)
replica_there (Some x) h = (x, refl)

module _ (n : ℕ) (events : List Event) (s : ℕ) (least : 1 ≤ s) (most : s ≤ n)
    (whole : IsWhole n s ((run n events).stores s)) (order : AreById ((run n events).stores s).names)
    (held : HoldsWhatItTook n) (knows : KnowsWhatItTook n events s) (id : FileId) where
  abbrev w : World
  w = run n events

  abbrev a : Store
  a = w.stores s

  -- ---- where it is not held

  not_known : (o : Option InodeValue) → known a.names id ≡ o → is_held id (w.took s) ≡ false → lines_of s a id o ≡ []
  not_known None at away = refl
  not_known (Some x) at away = absurd (false≢true (sym away ∙ (knows.held id).1 (x.own, ap own_of at)))

  pub away : is_held id (w.took s) ≡ false → held_lines s a id ≡ []
  away h = not_known (known a.names id) refl h

  -- ---- where it is

  module _ (x : InodeValue) (at : known a.names id ≡ Some x) where
    own : x.own ≡ own_state id (w.took s)
    own = ap (λ (o : Option InodeValue). or_blank id (own_of o)) (sym at) ∙ knows.own id

    replica : (r : Replica) × (replica_at a id ≡ Some r)
    replica = replica_there (replica_at a id) (whole.together id ∙ ap (λ (o : Option InodeValue). is_some o) at)

    -- what is held of its content is what was taken
    content : content_of a id ≡ content_taken w id s
    content =
        ap (λ (o : Option Replica). (or_nothing o).content) replica.1
        ∙ held events id s least most replica.0 replica.1

    entries : CountsChildren w s id (count_listed x.entries id)
    entries = record {
      children = children id x.entries (order.entries id x at);
      each_once = each_once id x.entries (order.entries id x at);
      listed = λ child.
          listed id x.entries (order.entries id x at) child
          ∙ ap (is_listed_entry id) (ap (entry_in child) (sym at) ∙ knows.entries id child);
      count_is = as_many id x.entries (order.entries id x at);
    }

    contents : (kind : Kind) → ShowsContent w s id kind (contents_at a id kind x)
    contents Dir = entries
    contents File = record {
      heads_are = ap (λ (c : ContentValue). map stamp_of c.heads) content;
      count_is = ap (λ (c : ContentValue). min (length (shown_bytes c)) (2 ^ 64 - 1)) content;
      first_are = ap (λ (c : ContentValue). take 16 (shown_bytes c)) content;
    }

    birth : (replica_of a id).birth ≡ (replica.0).birth
    birth = ap (λ (o : Option Replica). (or_nothing o).birth) replica.1

    state : ShowsState w s id (shown_of s a id x)
    state = record {
      server_is = refl;
      id_is = refl;
      place_is = ap (λ (o : Attributes). o.place) own;
      gold_is = (
        replica.0,
        replica.1,
        ap (λ (o : Attributes). is_raised o.flags s (replica_of a id).birth) own
            ∙ ap (is_raised (own_state id (w.took s)).flags s) birth,
      );
      full_is = sym (ap is_full_of at);
      contents_are = contents id.kind;
    }

  abbrev Tells : List JournalLine → Type 0
  Tells lines = (r : ShownReplica) × (lines ≡ printed.Replica r ∷ []) × ShowsState w s id r

  one_line : (o : Option InodeValue) → known a.names id ≡ o → is_held id (w.took s) ≡ true → Tells (lines_of s a id o)
  one_line None at h =
      let there = (knows.held id).0 h in
      absurd (none-some there.0 (sym (ap own_of at) ∙ there.1))
  one_line (Some x) at h = (shown_of s a id x, refl, state x at)

  pub here : is_held id (w.took s) ≡ true → Tells (held_lines s a id)
  here h = one_line (known a.names id) refl h
