-- What seeks is among what may seek.
use Rattle.std.proofs.Common.{◌≡◌, Bool, true, false, ◌&&◌, not, if◌then◌else◌, is_some, List, Option, None, Some, refl, sym, ap, ◌∙◌}
use Rattle.std.specs.List.{filter, list_any}
use Rattle.std.specs.List.Sorted.{IsStrictlySortedBy}
use Rattle.std.specs.Map.{keys_of}
use Rattle.std.proofs.lemmas.Bool.{and_from, and_parts, false≢true}
use Rattle.pg_base.specs.declared.id.FileId.{FileId}
use Rattle.pg_base.specs.Id.{file_cmp, is_same_file}
use Rattle.pg_register.specs.Flag.{is_raised}
use Rattle.pg_graph.specs.pg_names.Names.{InodeValue, known, or_blank, own_of}
use Rattle.pg_graph.specs.pg_house.Facts.{is_among}
use Rattle.pg_graph.specs.pg_store.declared.store.Store.{Store}
use Rattle.pg_graph.specs.pg_store.Births.{birth_of}
use Rattle.pg_graph.specs.pg_store.Seekers.{is_apart, matches, may_seek, seeks_as}
use Rattle.pg_graph.specs.pg_store.Seen.{removed_of, server_of}
use Rattle.pg_graph.specs.pg_store.Store.{replica_of}
use Rattle.pg_graph.specs.Walks.{edges_of}
use Rattle.pg_graph.proofs.pg_pieces.pg_house.Among.{among_keys, among_where, one_of_among, same_where}
use Rattle.pg_intentions.specs.Seeks.{is_seeking, to_seek}

module _ (s : Store) where
  -- so of what is known of a thing
  seeks_by : (q : FileId) (o : Option InodeValue)
      → (is_some o && (if is_raised (or_blank q (own_of o)).flags (server_of s) (birth_of s q)
      then list_any (is_apart (server_of s) (removed_of s) (edges_of s q)) (or_blank q (own_of o)).flags
      else not (list_any (matches (removed_of s) (or_blank q (own_of o)).flags) (edges_of s q))))
      ≡ seeks_as (server_of s) (removed_of s) (own_of o) (replica_of s q)
  seeks_by q None = refl
  seeks_by q (Some x) = refl

  seeks_may : (q : FileId) → is_seeking s q ≡ may_seek s.names s.replicas q
  seeks_may q = seeks_by q (known s.names q)

  -- what seeks is held
  seeking_held : (q : FileId) → is_seeking s q ≡ true → is_among q (keys_of s.names.held) ≡ true
  seeking_held q h = among_keys q s.names.held ∙ (and_parts (is_some (known s.names q)) _ h).0

  -- what is not among these does not seek
  abbrev pub MaySeek : List FileId → Type 0
  MaySeek ids = (q : FileId) → list_any (is_same_file q) ids ≡ false → may_seek s.names s.replicas q ≡ false

  marked_by : (ids : List FileId) → MaySeek ids → (q : FileId) → is_seeking s q ≡ true → (t : Bool) → list_any (is_same_file q) ids ≡ t → t ≡ true
  marked_by ids may q h true e = refl
  marked_by ids may q h false e = absurd (false≢true (sym (may q e) ∙ sym (seeks_may q) ∙ h))

  pub marked_seek : (ids : List FileId) → IsStrictlySortedBy file_cmp ids → IsStrictlySortedBy file_cmp (keys_of s.names.held) → MaySeek ids
      → (files : List FileId) → files ≡ filter (is_seeking s) ids → files ≡ to_seek s
  marked_seek ids a b may files are =
      are
      ∙ same_where (is_seeking s) ids (keys_of s.names.held) a b
      (λ q h. sym (one_of_among q ids) ∙ marked_by ids may q h (list_any (is_same_file q) ids) refl ∙ sym (seeking_held q h))

  quiet_by : (q : FileId) (t : Bool) → is_seeking s q ≡ t → list_any (is_same_file q) (to_seek s) ≡ false → t ≡ false
  quiet_by q false h free = refl
  quiet_by q true h free =
      absurd (false≢true (sym free ∙ one_of_among q (to_seek s) ∙ among_where (is_seeking s) q (keys_of s.names.held)
      ∙ and_from (is_seeking s q) (is_among q (keys_of s.names.held)) h (seeking_held q h)))

  -- all that seeks is what may seek
  pub seekers_may : (files : List FileId) → files ≡ to_seek s → MaySeek files
  seekers_may files are q free = sym (seeks_may q) ∙ quiet_by q (is_seeking s q) refl (ap (λ fs. list_any (is_same_file q) fs) (sym are) ∙ free)
