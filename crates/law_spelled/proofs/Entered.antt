-- A server is given up: no edge leads to it, whoever asked it asks another, and no cell is sure any more.
use Rattle.std.proofs.Common.{ℕ, ◌≡◌, Bool, true, false, List, [], ◌∷◌, flat_map, find, not, Option, None, Some, All, refl, inl, inr}
use Rattle.std.specs.Map.{keys_of}
use Rattle.std.proofs.lemmas.Bool.{false≢true}
use Rattle.std.proofs.lemmas.List.Elements.{All-append, All-cons, All-head, All-nil, All-push, All-tail}
use Rattle.pg_base.specs.declared.id.FileId.{FileId}
use Rattle.pg_base.specs.declared.id.Kind.{Kind}
use Rattle.pg_base.specs.declared.id.Kind.TheVariants.{Dir, File}
use Rattle.pg_content.specs.Content.{Among}
use Rattle.pg_content.proofs.Members.{among_filter}
use Rattle.pg_edges.specs.declared.edge.Edge.{Edge}
use Rattle.pg_server.specs.pg_pieces.pg_intent.Intents.{keys_to}
use Rattle.pg_msg.specs.declared.message.Message.TheVariants as message
use Rattle.pg_msg.specs.declared.work.Work.{Work}
use Rattle.pg_server.specs.pg_pieces.pg_names.declared.attributes.Attributes.{Attributes}
use Rattle.pg_server.specs.pg_pieces.pg_names.Names.{InodeValue, NamesValue, directories, is_dir, is_dir_kind, known, own_at}
use Rattle.pg_server.proofs.pg_pieces.pg_house.Truths.{chosen}
use Rattle.pg_server.specs.pg_pieces.pg_store.declared.store.Store.{Store}
use Rattle.pg_server.specs.pg_pieces.pg_store.Seen.{removed_of}
use Rattle.pg_server.specs.pg_pieces.pg_store.Servers.{next_target}
use Rattle.pg_server.specs.pg_pieces.pg_store.Store.{replica_at}
use Rattle.pg_server.specs.pg_pieces.pg_store.Views.{cut, cut_born, cut_each, enter, listed_birth, with_removed}
use Rattle.pg_server.specs.pg_pieces.pg_store.Wishes.{wished_of}
use Rattle.pg_server.specs.pg_graph.Walks.{edges_of}
use Rattle.pg_server.specs.pg_intentions.Inviting.{first_loose, invite_along, invite_each, invite_of, invites, loose_edge}
use Rattle.pg_server.specs.pg_intentions.Seeks.{matches}
use Rattle.pg_server.specs.pg_pieces.Accepting.{ends_to}
use Rattle.pg_server.specs.pg_pieces.Done.{idle}
use Rattle.pg_server.specs.pg_pieces.Posting.{sent_to}
use Rattle.pg_server.specs.pg_calls.GivingUp.{cells_of, doubt_all, enter_view, slots_in, slots_to}
use Rattle.law_spelled.specs.Messages.{FitsSent}
use Rattle.law_spelled.specs.Stores.{FitsNote, FitsStore}
use Rattle.law_spelled.proofs.House.{IsOfDir}
use Rattle.law_spelled.proofs.Intents.{turned_all}
use Rattle.law_spelled.proofs.Messages.{sent_fits}
use Rattle.law_spelled.proofs.Notes.{wishes_aimed}
use Rattle.law_spelled.proofs.Places.{removed_fits}
use Rattle.law_spelled.proofs.Replicas.{IsToServer, replica_or}
use Rattle.law_spelled.proofs.Servers.{next_may}
use Rattle.law_spelled.proofs.Stores.{FitsDone, Fine, unlink_fits}

-- ---- the view is entered

born_fits : (server : ℕ) (s : Store) (f : FileId) (o : Option ℕ) → FitsStore s → FitsStore (cut_born server s f o)
born_fits server s f None h = h
born_fits server s f (Some birth) h = unlink_fits s h f server birth

cuts_fit : (server : ℕ) (fs : List FileId) (s : Store) → FitsStore s → FitsStore (cut_each server s fs)
cuts_fit server [] s h = h
cuts_fit server (f ∷ fs) s h = cuts_fit server fs (cut server s f) (born_fits server s f (listed_birth s f server) h)

entered : (s : Store) (server : ℕ) → FitsStore s → FitsStore (enter s server)
entered s server h =
    let a = with_removed s server in
    let removed : FitsStore a = record {
      servers = h.servers;
      names = removed_fits s.names server h.names;
      replicas = h.replicas;
      announced = All-nil FitsNote;
      intents = h.intents;
      wishes = h.wishes;
    } in
    let b = cut_each server a (keys_of s.names.held) in
    let cuts : FitsStore b = cuts_fit server (keys_of s.names.held) a removed in
    let next = next_target b server in
    let may = next_may b cuts server in
    record {
      servers = cuts.servers;
      names = cuts.names;
      replicas = cuts.replicas;
      announced = cuts.announced;
      intents = turned_all (keys_to server b.intents) b.intents next may cuts.intents;
      wishes = wishes_aimed b.wishes (wished_of server b.wishes) next may cuts.wishes;
    }

-- ---- the cells of directories

dir_by : (k : Kind) → is_dir_kind k ≡ true → k ≡ Dir
dir_by Dir h = refl
dir_by File h = absurd (false≢true h)

children_of : (dir : FileId) → dir.kind ≡ Dir → (children : List FileId) → All IsOfDir (slots_to dir children)
children_of dir k [] = All-nil IsOfDir
children_of dir k (c ∷ cs) = All-cons IsOfDir (record { dir = dir; child = c }) (slots_to dir cs) k (children_of dir k cs)

slots_of : (dir : FileId) → dir.kind ≡ Dir → (o : Option InodeValue) → All IsOfDir (slots_in dir o)
slots_of dir k None = All-nil IsOfDir
slots_of dir k (Some x) = children_of dir k (keys_of x.entries)

all_cells : (s : NamesValue) (dirs : List FileId) → ((d : FileId) → Among d dirs → is_dir d ≡ true) → All IsOfDir (flat_map (cells_of s) dirs)
all_cells s [] each = All-nil IsOfDir
all_cells s (d ∷ ds) each =
    All-append IsOfDir (cells_of s d) (flat_map (cells_of s) ds) (slots_of d (dir_by d.kind (each d (inl refl))) (known s d))
    (all_cells s ds (λ x h. each x (inr h)))

-- ---- invites go last

-- there is none, or it is to a server
abbrev MayBeEdge : Option Edge → Type 0
MayBeEdge None = Unit {0}
MayBeEdge (Some e) = IsToServer e

find_edge : (p : Edge → Bool) (es : List Edge) → All IsToServer es → MayBeEdge (find p es)
find_edge p [] all = tt
find_edge p (e ∷ es) all = chosen MayBeEdge (p e) (Some e) (find p es) (All-head IsToServer e es all) (find_edge p es (All-tail IsToServer e es all))

loose_fits : (removed : List ℕ) (o : Option Attributes) (es : List Edge) → All IsToServer es → MayBeEdge (first_loose removed o es)
loose_fits removed None es all = tt
loose_fits removed (Some own) es all = find_edge (λ e. not (matches removed own.flags e)) es all

along_fits : (s : Store) (f : FileId) (o : Option Edge) (work : Work) → MayBeEdge o → Fine work → Fine (invite_along s f o work)
along_fits s f None work k h = h
along_fits s f (Some e) work k h =
    let m = message.Invite (ends_to s f e.birth) in
    record {
      sent = h.sent;
      tail = All-push FitsSent work.tail (sent_to s e.peer m) h.tail (sent_fits s e.peer m k (λ w. tt));
      left = h.left;
      unsure = h.unsure;
      from = h.from;
    }

invites_fit : (files : List FileId) (s : Store) (work : Work) → FitsStore s → Fine work → Fine (invite_each s files work)
invites_fit [] s work k h = h
invites_fit (f ∷ files) s work k h =
    let edge = loose_edge s f in
    let to = loose_fits (removed_of s) (own_at s.names f) (edges_of s f) (replica_or s.replicas f k.replicas (replica_at s f) refl).edges in
    invites_fit files s (invite_of s f work) k
    (chosen Fine (invites s f) (invite_along s f edge work) work (along_fits s f edge work to h) h)

-- A GIVEUP
pub given_up : (s : Store) (server : ℕ) (work : Work) → FitsDone (idle s work) → FitsDone (enter_view s server work)
given_up s server work h =
    let b = enter s server in
    let k = entered s server h.store in
    record {
      store = k;
      work = invites_fit (keys_of b.names.held) b (doubt_all b work) k (record {
        sent = h.work.sent;
        tail = h.work.tail;
        left = h.work.left;
        unsure = All-append IsOfDir work.unsure (flat_map (cells_of b.names) (directories b.names)) h.work.unsure
            (all_cells b.names (directories b.names) (λ d among. (among_filter is_dir d (keys_of b.names.held) among).1));
        from = h.work.from;
      });
    }
