-- What is asked and answered of bodies has a spelling: few stamps that rise, changes of few parts and bytes, and pieces.
use Rattle.std.proofs.Common.{ℕ, ◌≡◌, ◌==◌, ◌≤◌, Bool, true, false, cond, List, [], ◌∷◌, length, take, drop, flat_map, map, Option, None, Some, All, refl, subst, arith}
use Rattle.std.specs.Ordering.{eq_by_cmp}
use Rattle.std.proofs.lemmas.List.{length-take}
use Rattle.std.proofs.lemmas.Option.{none-some, same_Some}
use Rattle.std.proofs.lemmas.List.Elements.{All-append, All-cons, All-head, All-nil, All-tail}
use Rattle.pg_base.specs.declared.head.Head.{Head}
use Rattle.pg_base.specs.declared.id.FileId.{FileId}
use Rattle.pg_base.specs.declared.stamp.Stamp.{Stamp}
use Rattle.pg_base.specs.Stamp.{stamp_cmp}
use Rattle.pg_base.specs.Version.{VersionValue, actor_of, stamp_of}
use Rattle.pg_patch.specs.Ranges.{RangesValue}
use Rattle.pg_content.specs.Content.{head_at, is_covered}
use Rattle.pg_delta.specs.Taking.{delta_to, patched_version}
use Rattle.pg_delta.specs.Whole.{delta_of}
use Rattle.pg_announced.specs.declared.announced.Announced.{Announced}
use Rattle.pg_announced.specs.Announced.{aimed, change_note, emptied, is_asked_of, is_awaited, key_at, longer, lose_note, new_note, put_note, without_note}
use Rattle.pg_edges.specs.declared.key.Key.TheVariants as key
use Rattle.pg_msg.specs.declared.message.Delta.{Delta}
use Rattle.pg_msg.specs.declared.message.Ends.{Ends}
use Rattle.pg_msg.specs.declared.message.Message.TheVariants as message
use Rattle.pg_msg.specs.declared.message.Piece.{Piece}
use Rattle.pg_msg.specs.declared.message.Wanted.{Wanted}
use Rattle.pg_msg.specs.declared.work.Work.{Work}
use Rattle.pg_msg.specs.Ends.{back}
use Rattle.pg_server.specs.pg_pieces.pg_names.Names.{is_dir}
use Rattle.pg_server.specs.pg_pieces.pg_replica.declared.replica.Replica.{Replica}
use Rattle.pg_server.specs.pg_pieces.pg_store.declared.store.Store.{Store}
use Rattle.pg_server.specs.pg_pieces.pg_store.Store.{content_of, keep_delta, replica_at, replica_of, take_version}
use Rattle.pg_server.proofs.pg_pieces.pg_house.Truths.{chosen}
use Rattle.pg_server.specs.pg_pieces.declared.accepting.EdgeUse.{EdgeUse}
use Rattle.pg_server.specs.pg_pieces.declared.accepting.EdgeUse.TheVariants as manner
use Rattle.pg_server.specs.pg_pieces.Accepting.{accept, ends_to, is_accepted}
use Rattle.pg_server.specs.pg_pieces.Done.{Done, idle}
use Rattle.pg_server.specs.pg_pieces.Posting.{reply, sent_to}
use Rattle.pg_server.specs.pg_pieces.Taking.{take_version_noted}
use Rattle.pg_server.specs.pg_transfer.declared.piecing.Progress.{Progress}
use Rattle.pg_server.specs.pg_transfer.declared.piecing.Progress.TheVariants as progress
use Rattle.pg_server.specs.pg_transfer.Asking.{acknowledged, ask, heard_by, listed, noted, offset_of, put_off, told_others, with_notes}
use Rattle.pg_server.specs.pg_transfer.Delta.{changed, changed_by, delta, made_at, made_by, refused, serves}
use Rattle.pg_server.specs.pg_transfer.Harbinger.{asked_again, first_heard, harbinger, heard, heard_beside}
use Rattle.pg_server.specs.pg_transfer.Later.{later}
use Rattle.pg_server.specs.pg_transfer.Piece.{advance, completed, piece, pieced, pieced_by, whole, without_noted}
use Rattle.pg_server.specs.pg_transfer.Taking.{taken_for}
use Rattle.pg_server.specs.pg_transfer.Want.{answered, given, given_as, most_in_piece, want}
use Rattle.pg_packet_write.specs.Fits.{FitStamps, FitsHead}
use Rattle.law_spelled.specs.Messages.{FitsSent}
use Rattle.law_spelled.proofs.Changes.{MayBeRanges, delta_fits, few_fit, no_stamps}
use Rattle.law_spelled.proofs.Handlers.{Fit, accept_fits, replied}
use Rattle.law_spelled.proofs.Lists.{all_where}
use Rattle.law_spelled.proofs.Messages.{AllSent, sent_fits}
use Rattle.law_spelled.proofs.Notes.{HasFitNote, note_changed, note_ended, note_found, note_lost, note_put}
use Rattle.law_spelled.proofs.Replicas.{HasFitHead, IsToServer, replica_or}
use Rattle.law_spelled.proofs.Stores.{FitsDone, again, kept_fits, noted as noted_store, version_noted}

-- ---- messages

head_found : (vs : List VersionValue) (stamp : Stamp) (v : VersionValue) → All HasFitHead vs → head_at vs stamp ≡ Some v → HasFitHead v
head_found [] stamp v h is = absurd (none-some v is)
head_found (w ∷ vs) stamp v h is =
    by (eq_by_cmp stamp_cmp stamp w.head.stamp) (All-head HasFitHead w vs h) (head_found vs stamp v (All-tail HasFitHead w vs h)) is
  where
    by : (t : Bool) → HasFitHead w → (head_at vs stamp ≡ Some v → HasFitHead v) → cond t (Some w) (head_at vs stamp) ≡ Some v → HasFitHead v
    by true here rest e = subst HasFitHead (same_Some w v e) here
    by false here rest e = rest e

asked : (s : Store) (ends : Ends) (stamp : Stamp) (offset : ℕ) (heads : List Stamp) (work : Work) → FitStamps heads → Fit s work
    → Fit s (ask s ends stamp offset heads work)
asked s ends stamp offset heads work k h =
    replied s (message.Want (back ends) (record { stamp = stamp; offset = offset; heads = heads })) work (λ w. k) h

told_it : (s : Store) (ends : Ends) (stamp : Stamp) (tag : ℕ) (work : Work) → Fit s work → Fit s (acknowledged s ends stamp tag work)
told_it s ends stamp tag work h =
    chosen (Fit s) (tag == 0) work (reply s (message.Ack (back ends) (key.Version stamp) tag) work) h
    (replied s (message.Ack (back ends) (key.Version stamp) tag) work (λ w. tt) h)

put_off_fits : (s : Store) (ends : Ends) (stamp : Stamp) (work : Work) → Fit s work → Fit s (put_off s ends stamp work)
put_off_fits s ends stamp work h = replied s (message.Later (back ends) stamp) work (λ w. tt) h

others_fit : (s : Store) (f : FileId) (from : ℕ) (head : Head) (work : Work) → FitsHead head → Fit s work → Fit s (told_others s f from head work)
others_fit s f from head work k h =
    let edges = (replica_of s f).edges in
    let told = heard_by s f from head in
    record {
      store = h.store;
      work = record {
        sent = All-append FitsSent work.sent (flat_map told edges) h.work.sent
            (all_where IsToServer FitsSent told
            (λ e to.
            let m = message.Harbinger (ends_to s f e.birth) 0 head in
            chosen AllSent (e.peer == from) [] (sent_to s e.peer m ∷ []) (All-nil FitsSent)
            (All-cons FitsSent (sent_to s e.peer m) [] (sent_fits s e.peer m to (λ w. k)) (All-nil FitsSent)))
            edges (replica_or s.replicas f h.store.replicas (replica_at s f) refl).edges);
        tail = h.work.tail;
        left = h.work.left;
        unsure = h.work.unsure;
        from = h.work.from;
      };
    }

listed_fit : (s : Store) (f : FileId) → FitStamps (listed s f)
listed_fit s f = few_fit (map stamp_of (content_of s f).heads)

-- ---- a version is announced

first_fits : (s : Store) (ends : Ends) (tag : ℕ) (head : Head) (work : Work) → FitsHead head → Fit s work → FitsDone (first_heard s ends tag head work)
first_fits s ends tag head work k h =
    let heads = listed s ends.file in
    let at = key_at ends.file head.stamp in
    let note = new_note head work.from tag in
    let a = asked s ends head.stamp 0 heads work (listed_fit s ends.file) h in
    let b = others_fit s ends.file work.from head (ask s ends head.stamp 0 heads work) k a in
    record { store = noted_store s h.store (put_note s.announced at note) (note_put s.announced at note k h.store.announced); work = b.work }

again_fits : (s : Store) (ends : Ends) (tag : ℕ) (head : Head) (offset : ℕ) (work : Work) → Fit s work
    → FitsDone (asked_again s ends tag head offset work)
again_fits s ends tag head offset work h =
    let at = key_at ends.file head.stamp in
    let f = aimed work.from tag in
    record {
      store = noted_store s h.store (change_note f s.announced at) (note_changed f s.announced at (λ n fits. fits) h.store.announced);
      work = (asked s ends head.stamp offset (listed s ends.file) work (listed_fit s ends.file) h).work;
    }

beside_fits : (o : Option Announced) (s : Store) (ends : Ends) (tag : ℕ) (head : Head) (work : Work) → FitsHead head → Fit s work
    → FitsDone (heard_beside o s ends tag head work)
beside_fits None s ends tag head work k h = first_fits s ends tag head work k h
beside_fits (Some n) s ends tag head work k h = again_fits s ends tag head (offset_of n.bytes) work h

heard_fits : (s : Store) (ends : Ends) (tag : ℕ) (head : Head) (work : Work) → FitsHead head → Fit s work → FitsDone (heard s ends tag head work)
heard_fits s ends tag head work k h =
    let waits = idle s (put_off s ends head.stamp work) in
    let beside = heard_beside (noted s ends.file head.stamp) s ends tag head work in
    let awaited = is_awaited s.announced ends.file work.from head in
    chosen FitsDone (is_covered (content_of s ends.file).heads (actor_of head) head.number) (idle s (acknowledged s ends head.stamp tag work))
    (cond awaited waits beside) (told_it s ends head.stamp tag work h)
    (chosen FitsDone awaited waits beside (put_off_fits s ends head.stamp work h) (beside_fits (noted s ends.file head.stamp) s ends tag head work k h))

-- what comes along an edge of a file, where it is accepted
along : (s : Store) (ends : Ends) (m : EdgeUse) (work : Work) (d : Done) → Fit s work → FitsDone (accept s ends m work)
    → (FitsDone (accept s ends m work) → FitsDone d)
    → FitsDone (cond (is_dir ends.file) (idle s work) (cond (is_accepted s work.from m ends) d (accept s ends m work)))
along s ends m work d h met k =
    let a = accept s ends m work in
    chosen FitsDone (is_dir ends.file) (idle s work) (cond (is_accepted s work.from m ends) d a) h
    (chosen FitsDone (is_accepted s work.from m ends) d a (k met) met)

pub harbinger_fits : (s : Store) (ends : Ends) (tag : ℕ) (head : Head) (work : Work) → FitsHead head → Fit s work
    → FitsDone (harbinger s ends tag head work)
harbinger_fits s ends tag head work k h =
    let a = accept s ends manner.Makes work in
    along s ends manner.Makes work (heard a.store ends tag head a.work) h (accept_fits s ends manner.Makes work h)
    (λ met. heard_fits a.store ends tag head a.work k (again a met))

-- ---- a body is asked for

few_taken : (n : ℕ) (bytes : List ℕ) → length (take n bytes) ≤ n
few_taken n bytes = omega (arith, length-take n bytes)

piece_given : (s : Store) (ends : Ends) (v : VersionValue) (offset : ℕ) (work : Work) → HasFitHead v → Fit s work → Fit s (given s ends v offset work)
piece_given s ends v offset work k h =
    replied s _ work (λ w. record { head = k; short = few_taken most_in_piece (drop offset v.body) }) h

given_fits : (o : Option RangesValue) (s : Store) (ends : Ends) (v : VersionValue) (heads : List Stamp) (work : Work) → MayBeRanges o → HasFitHead v
    → FitStamps heads → Fit s work → Fit s (given_as o s ends v heads work)
given_fits None s ends v heads work r k from h = piece_given s ends v 0 work k h
given_fits (Some ranges) s ends v heads work r k from h = replied s _ work (λ w. record { head = k; from = from; ranges = r }) h

answered_fits : (o : Option VersionValue) (x : Replica) (s : Store) (ends : Ends) (wanted : Wanted) (work : Work)
    → ((v : VersionValue) → o ≡ Some v → HasFitHead v) → FitStamps wanted.heads → Fit s work → Fit s (answered o x s ends wanted work)
answered_fits None x s ends wanted work k from h = put_off_fits s ends wanted.stamp work h
answered_fits (Some v) x s ends wanted work k from h =
    let change = delta_of x.kept wanted.heads v.head.stamp v.head.length in
    chosen (Fit s) (wanted.offset == 0) (given_as change s ends v wanted.heads work) (given s ends v wanted.offset work)
    (given_fits change s ends v wanted.heads work (delta_fits x.kept wanted.heads v.head.stamp v.head.length) (k v refl) from h)
    (piece_given s ends v wanted.offset work (k v refl) h)

pub want_fits : (s : Store) (ends : Ends) (wanted : Wanted) (work : Work) → FitStamps wanted.heads → Fit s work → FitsDone (want s ends wanted work)
want_fits s ends wanted work from h =
    let a = accept s ends manner.Needs work in
    let x = replica_of a.store ends.file in
    let o = head_at x.content.heads wanted.stamp in
    along s ends manner.Needs work (idle a.store (answered o x a.store ends wanted a.work)) h (accept_fits s ends manner.Needs work h)
    (λ met.
    answered_fits o x a.store ends wanted a.work
    (λ v is. head_found x.content.heads wanted.stamp v (replica_or a.store.replicas ends.file met.store.replicas (replica_at a.store ends.file) refl).heads is)
    from (again a met))

-- ---- a body comes

taken_fits : (ends : Ends) (tag : ℕ) (s : Store) (v : VersionValue) (work : Work) → HasFitHead v → Fit s work → FitsDone (taken_for ends tag s v work)
taken_fits ends tag s v work k h =
    let next = take_version s ends.file v in
    let d = take_version_noted s ends.file v work in
    let a = version_noted s work h ends.file v k in
    told_it next ends v.head.stamp tag d.work (record { store = a.store; work = a.work })

-- what is made has the head of the note
abbrev MayBeMade : Option (VersionValue × ℕ) → Type 0
MayBeMade None = Unit {0}
MayBeMade (Some v) = HasFitHead v.0

made_fits : (from : ℕ) (x : Option Replica) (o : Option Announced) (d : Delta) → ((n : Announced) → o ≡ Some n → HasFitNote n)
    → MayBeMade (made_by from x o d)
made_fits from x None d k = tt
made_fits from x (Some n) d k =
    chosen MayBeMade (n.source == from) (made_at x n d) None (at x) tt
  where
    at : (x : Option Replica) → MayBeMade (made_at x n d)
    at None = tt
    at (Some y) =
        chosen MayBeMade (serves y.content n d) (Some (patched_version y.content n.head d.ranges, n.tag)) None (k n refl) tt

refused_fits : (t : Bool) (s : Store) (ends : Ends) (d : Delta) (work : Work) → Fit s work → FitsDone (refused t s ends d work)
refused_fits false s ends d work h = h
refused_fits true s ends d work h =
    let at = key_at ends.file d.head.stamp in
    record {
      store = noted_store s h.store (change_note emptied s.announced at) (note_changed emptied s.announced at (λ n fits. fits) h.store.announced);
      work = (asked s ends d.head.stamp 0 [] work no_stamps h).work;
    }

changed_fits : (o : Option (VersionValue × ℕ)) (t : Bool) (s : Store) (ends : Ends) (d : Delta) (work : Work) → MayBeMade o → Fit s work
    → FitsDone (changed_by o t s ends d work)
changed_fits None t s ends d work k h = refused_fits t s ends d work h
changed_fits (Some v) t s ends d work k h =
    let kept = delta_to d.from v.0.head.stamp d.ranges in
    taken_fits ends v.1 (keep_delta s ends.file kept) v.0 work k (record { store = kept_fits s h.store ends.file kept; work = h.work })

pub delta_comes : (s : Store) (ends : Ends) (d : Delta) (work : Work) → Fit s work → FitsDone (delta s ends d work)
delta_comes s ends d work h =
    let a = accept s ends manner.Answers work in
    let note = noted a.store ends.file d.head.stamp in
    along s ends manner.Answers work (changed a.store ends d a.work) h (accept_fits s ends manner.Answers work h)
    (λ met.
    changed_fits (made_by a.work.from (replica_at a.store ends.file) note d) (is_asked_of a.work.from note) a.store ends d a.work
    (made_fits a.work.from (replica_at a.store ends.file) note d
    (λ n is. note_found a.store.announced (key_at ends.file d.head.stamp) n met.store.announced is)) (again a met))

completed_fits : (o : Option Announced) (s : Store) (ends : Ends) (p : Piece) (work : Work) → ((n : Announced) → o ≡ Some n → HasFitNote n) → Fit s work
    → FitsDone (completed o s ends p work)
completed_fits None s ends p work k h = h
completed_fits (Some n) s ends p work k h =
    let at = key_at ends.file p.head.stamp in
    taken_fits ends n.tag (without_noted s ends.file p.head.stamp) (whole n p) work (k n refl)
    (record { store = noted_store s h.store (without_note s.announced at) (note_ended s.announced at h.store.announced); work = h.work })

pieced_fits : (way : Progress) (s : Store) (ends : Ends) (p : Piece) (work : Work) → Fit s work → FitsDone (pieced_by way s ends p work)
pieced_fits progress.Nothing s ends p work h = h
pieced_fits (progress.More offset) s ends p work h =
    let at = key_at ends.file p.head.stamp in
    record {
      store = noted_store s h.store (change_note (longer p.bytes) s.announced at)
          (note_changed (longer p.bytes) s.announced at (λ n fits. fits) h.store.announced);
      work = (asked s ends p.head.stamp offset (listed s ends.file) work (listed_fit s ends.file) h).work;
    }
pieced_fits progress.Whole s ends p work h =
    completed_fits (noted s ends.file p.head.stamp) s ends p work
    (λ n is. note_found s.announced (key_at ends.file p.head.stamp) n h.store.announced is) h

pub piece_fits : (s : Store) (ends : Ends) (p : Piece) (work : Work) → Fit s work → FitsDone (piece s ends p work)
piece_fits s ends p work h =
    let a = accept s ends manner.Answers work in
    along s ends manner.Answers work (pieced a.store ends p a.work) h (accept_fits s ends manner.Answers work h)
    (λ met. pieced_fits (advance a.work.from (noted a.store ends.file p.head.stamp) p) a.store ends p a.work (again a met))

pub later_fits : (s : Store) (ends : Ends) (stamp : Stamp) (work : Work) → Fit s work → FitsDone (later s ends stamp work)
later_fits s ends stamp work h =
    let a = accept s ends manner.Answers work in
    let at = key_at ends.file stamp in
    along s ends manner.Answers work (idle (with_notes a.store (lose_note a.store.announced at a.work.from)) a.work) h
    (accept_fits s ends manner.Answers work h)
    (λ met. record {
      store = noted_store a.store met.store (lose_note a.store.announced at a.work.from) (note_lost a.store.announced at a.work.from met.store.announced);
      work = met.work;
    })
