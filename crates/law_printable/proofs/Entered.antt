-- A server is given up: names stay as they are, and no cell is sure any more.
use Rattle.std.proofs.Common.{ℕ, ◌≡◌, true, List, [], ◌∷◌, Option, None, Some, All, refl, sym, subst, inl, inr}
use Rattle.std.specs.List.{flat_map}
use Rattle.std.specs.Map.{keys_of}
use Rattle.std.proofs.lemmas.List.Elements.{All-append, All-cons, All-nil}
use Rattle.law_frame.specs.pg_run.pg_base.declared.id.FileId.{FileId}
use Rattle.law_frame.specs.pg_run.pg_base.declared.id.Kind.TheVariants.{Dir}
use Rattle.law_frame.specs.pg_run.pg_content.Content.{Among}
use Rattle.law_frame.proofs.pg_run.pg_content.Members.{among_filter}
use Rattle.law_frame.specs.pg_run.pg_edges.declared.edge.Edge.{Edge}
use Rattle.law_frame.specs.pg_run.pg_intent.declared.intent.Intent.{Intent}
use Rattle.law_frame.specs.pg_run.pg_intent.declared.key.IntentKey.{IntentKey}
use Rattle.law_frame.specs.pg_run.pg_intent.Intents.{aimed, ended, keys_to, turned, turned_each}
use Rattle.law_frame.specs.pg_run.pg_intent.Key.{is_for_peer}
use Rattle.law_frame.specs.pg_run.pg_msg.declared.work.Work.{Work}
use Rattle.law_frame.specs.pg_run.pg_names.Names.{InodeValue, NamesValue, directories, is_dir, known}
use Rattle.law_frame.proofs.pg_run.pg_house.Truths.{chosen}
use Rattle.law_frame.specs.pg_run.pg_store.declared.store.Store.{Store}
use Rattle.law_frame.specs.pg_run.pg_store.Views.{enter}
use Rattle.law_frame.proofs.pg_run.pg_store.Entered.{enter_intents, enter_names}
use Rattle.law_frame.specs.pg_run.pg_pieces.Done.{idle}
use Rattle.law_frame.specs.pg_run.pg_intentions.Inviting.{invite_along, invite_each, invite_of, invites, loose_edge}
use Rattle.law_frame.specs.pg_run.pg_calls.GivingUp.{cells_of, doubt_all, enter_view, slots_in, slots_to}
use Rattle.law_printable.proofs.Found.{dir_kind}
use Rattle.law_printable.proofs.House.{IsOfDir, WorkSuits}
use Rattle.law_printable.proofs.Intents.{AllIntents, aimed_suit, ended_suit}
use Rattle.law_printable.proofs.Messages.{Suits}
use Rattle.law_printable.proofs.Places.{NamesSuit}
use Rattle.law_printable.proofs.Stores.{DoneSuits, StoreSuits}

-- ---- intentions end, or ask another server

turned_suit : (is : List Intent) (k : IntentKey) (to : ℕ) → AllIntents is → AllIntents (turned is k to)
turned_suit is k to h = chosen AllIntents (is_for_peer k) (ended is k) (aimed is k to) (ended_suit is k h) (aimed_suit is k to h)

turned_all : (ks : List IntentKey) (is : List Intent) (to : ℕ) → AllIntents is → AllIntents (turned_each is ks to)
turned_all [] is to h = h
turned_all (k ∷ ks) is to h = turned_all ks (turned is k to) to (turned_suit is k to h)

entered : (s : Store) (server : ℕ) → StoreSuits s → StoreSuits (enter s server)
entered s server h = record {
  names = subst NamesSuit (sym (enter_names s server)) h.names;
  intents = subst AllIntents (sym (enter_intents s server)) (turned_all (keys_to server s.intents) s.intents _ h.intents);
}

-- ---- the cells of directories

children_of : (dir : FileId) → dir.kind ≡ Dir → (children : List FileId) → All IsOfDir (slots_to dir children)
children_of dir k [] = All-nil IsOfDir
children_of dir k (c ∷ cs) = All-cons IsOfDir (record { dir = dir; child = c }) (slots_to dir cs) k (children_of dir k cs)

slots_of : (dir : FileId) → dir.kind ≡ Dir → (o : Option InodeValue) → All IsOfDir (slots_in dir o)
slots_of dir k None = All-nil IsOfDir
slots_of dir k (Some x) = children_of dir k (keys_of x.entries)

all_cells : (s : NamesValue) (dirs : List FileId) → ((d : FileId) → Among d dirs → is_dir d ≡ true) → All IsOfDir (flat_map (cells_of s) dirs)
all_cells s [] each = All-nil IsOfDir
all_cells s (d ∷ ds) each =
    All-append IsOfDir (cells_of s d) (flat_map (cells_of s) ds) (slots_of d (dir_kind d.kind (each d (inl refl))) (known s d))
    (all_cells s ds (λ x h. each x (inr h)))

-- ---- invites go last

abbrev Fine : Work → Type 0
Fine work = WorkSuits Suits work

along_suits : (s : Store) (file : FileId) (o : Option Edge) (work : Work) → Fine work → Fine (invite_along s file o work)
along_suits s file None work h = h
along_suits s file (Some e) work h = record { made = h.made; sent = h.sent; left = h.left; unsure = h.unsure }

invites_suit : (files : List FileId) (s : Store) (work : Work) → Fine work → Fine (invite_each s files work)
invites_suit [] s work h = h
invites_suit (file ∷ files) s work h =
    invites_suit files s (invite_of s file work)
    (chosen Fine (invites s file) (invite_along s file (loose_edge s file) work) work (along_suits s file (loose_edge s file) work h) h)

-- A GIVEUP
pub given_up : (s : Store) (server : ℕ) (work : Work) → DoneSuits (idle s work) → DoneSuits (enter_view s server work)
given_up s server work h =
    let b = enter s server in
    record {
      store = entered s server h.store;
      work = invites_suit (keys_of b.names.held) b (doubt_all b work) (record {
        made = h.work.made;
        sent = h.work.sent;
        left = h.work.left;
        unsure = All-append IsOfDir work.unsure (flat_map (cells_of b.names) (directories b.names)) h.work.unsure
            (all_cells b.names (directories b.names) (λ d among. (among_filter is_dir d (keys_of b.names.held) among).1));
      });
    }
