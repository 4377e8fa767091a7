-- What calls are answered.
use Rattle.std.proofs.Common.{ℕ, ◌≡◌, ◌≤◌, List, Option, None, Some, Result, Ok, Err, take, drop, refl, inr, arith}
use Rattle.std.proofs.lemmas.List.{length-take}
use Rattle.pg_announced.specs.Announced.{first_of}
use Rattle.pg_base.specs.declared.id.FileId.{FileId}
use Rattle.pg_base.specs.declared.id.Kind.TheVariants.{Dir, File}
use Rattle.pg_base.specs.declared.stamp.Stamp.{Stamp}
use Rattle.pg_call.specs.declared.call.Call.{Call}
use Rattle.pg_call.specs.declared.call.Call.TheVariants as call
use Rattle.pg_call.specs.declared.reply.Reply.{Reply}
use Rattle.pg_call.specs.declared.reply.Reply.TheVariants as reply
use Rattle.pg_server.specs.pg_calls.Bodies.{change, change_file, shown_part, when_fit}
use Rattle.pg_server.specs.pg_calls.Calls.{do_call}
use Rattle.pg_server.specs.pg_calls.Demoting.{demoted_at}
use Rattle.pg_server.specs.pg_calls.Dropping.{clean_gold, dropped_at, leaving}
use Rattle.pg_server.specs.pg_calls.Forgetting.{lost_at}
use Rattle.pg_server.specs.pg_calls.GivingUp.{removal_at}
use Rattle.pg_server.specs.pg_calls.Looks.{counts, freshness, listing, page, stat_of}
use Rattle.pg_server.specs.pg_calls.Naming.{next_id}
use Rattle.pg_server.specs.pg_checks.Answer.{Answer, answered, deny, replied, told}
use Rattle.pg_server.specs.pg_checks.Checks.{dir_at, empty_dir_at, file_at, in_time, move_of, new_name, target_at}
use Rattle.pg_content.specs.Content.{shown_bytes}
use Rattle.pg_server.specs.pg_checks.pg_lookup.declared.paths.LookupError.{LookupError}
use Rattle.pg_server.specs.pg_checks.pg_lookup.declared.paths.LookupError.TheVariants as stop
use Rattle.pg_server.specs.pg_pieces.pg_msg.declared.work.Work.{Work}
use Rattle.pg_server.specs.pg_pieces.pg_names.Names.{InodeValue, NamesValue, known, or_blank, own_of, own_or_blank}
use Rattle.pg_patch.specs.Ranges.{RangesValue, cut_to, written}
use Rattle.pg_register.specs.declared.flag.Flag.{Flag}
use Rattle.pg_register.specs.declared.place.Place.{Place}
use Rattle.pg_server.specs.pg_pieces.pg_store.declared.store.Store.{Store}
use Rattle.pg_server.specs.pg_pieces.pg_store.Store.{content_of}
use Rattle.pg_words.specs.PlaceWords.{IsPlace}
use Rattle.law_spelled.specs.Messages.{HasPlaceWidths}
use Rattle.law_spelled.specs.Stores.{FitsNames, FitsPlace}
use Rattle.law_lengths.specs.Packets.{AsksFew}
use Rattle.law_lengths.proofs.Replies.{IsTold}
use Rattle.law_lengths.proofs.Rows.{page_told}

-- ---- what calls find

own_by : (names : NamesValue) (f : FileId) (o : Option InodeValue) → FitsNames names → known names f ≡ o
    → FitsPlace f (or_blank f (own_of o)).place
own_by names f None h e = record { parent = refl; name = λ fits. inr (inr (f, fits, refl)) }
own_by names f (Some x) h e = (h.held f x e).own.place

-- what is not held has the blank place
own_fits : (names : NamesValue) (f : FileId) → FitsNames names → FitsPlace f (own_or_blank names f).place
own_fits names f h = own_by names f (known names f) h refl

place_told : (f : FileId) (p : Place) → FitsPlace f p → HasPlaceWidths f p → IsPlace p
place_told f p h w = record { stamp = w.stamp; parent = record { kind = h.parent; fits = w.parent }; name = h.name w.thing }

stat_told : (s : Store) (f : FileId) → FitsNames s.names → IsTold (reply.Stat (stat_of s f))
stat_told s f h w = record { spelled = place_told f (own_or_blank s.names f).place (own_fits s.names f h) w; names = tt }

bytes_told : (count : ℕ) (bytes : List ℕ) → count ≤ 32768 → IsTold (reply.Bytes (take count bytes))
bytes_told count bytes few w = record { spelled = omega (arith, few, length-take count bytes); names = tt }

fresh_told : (o : Option Stamp) → IsTold (freshness o)
fresh_told None w = record { spelled = tt; names = tt }
fresh_told (Some stamp) w = record { spelled = tt; names = tt }

-- ---- what a check leads to

denied : (s : Store) (why : LookupError) (work : Work) → IsTold (deny s why work).reply
denied s (stop.Refused why) work w = record { spelled = tt; names = tt }
denied s (stop.NotYet found) work w = record { spelled = tt; names = tt }

going : {A : Type 0} (s : Store) (work : Work) (r : Result A LookupError) (next : A → Answer)
    → ((x : A) → IsTold (next x).reply) → IsTold (answered s work r next).reply
going s work (Err why) next each = denied s why work
going s work (Ok x) next each = each x

-- of a call that looks
looked : {A : Type 0} (s : Store) (work : Work) (r : Result A LookupError) (tell : A → Reply)
    → ((x : A) → IsTold (tell x)) → IsTold (replied s work r tell).reply
looked s work r tell each = going s work r (λ found. told s work (tell found)) each

left : (s : Store) (f : FileId) (work : Work) (o : Option Flag) → IsTold (leaving s f work o).reply
left s f work None w = record { spelled = tt; names = tt }
left s f work (Some flag) w = record { spelled = tt; names = tt }

-- of a file that changes
changed : (s : Store) (work : Work) (text : List ℕ) (ranges : RangesValue) → IsTold (change s text ranges work).reply
changed s work text ranges =
    going s work (file_at s text) (change_file s ranges work)
    (λ f. going s work (when_fit s ranges f) _ (λ fit w. record { spelled = tt; names = tt }))

-- ---- calls

pub call_told : (s : Store) (c : Call) (work : Work) → FitsNames s.names → AsksFew c → IsTold (do_call s c work).reply
call_told s (call.Mkdir path) work h few =
    going s work (new_name s (next_id s Dir) path) _ (λ x w. record { spelled = tt; names = tt })
call_told s (call.Create path policy) work h few =
    going s work (new_name s (next_id s File) path) _ (λ x w. record { spelled = tt; names = tt })
call_told s (call.Write path offset bytes) work h few = changed s work path (written offset bytes)
call_told s (call.Cut path n) work h few = changed s work path (cut_to n)
call_told s (call.Read path offset count) work h few =
    looked s work (file_at s path) (λ f. reply.Bytes (shown_part s f offset count))
    (λ f. bytes_told count (drop offset (shown_bytes (content_of s f))) few)
call_told s (call.Fresh path) work h few =
    looked s work (file_at s path) (λ f. freshness (first_of s.announced f)) (λ f. fresh_told (first_of s.announced f))
call_told s (call.Ls path from) work h few =
    looked s work (dir_at s path) (λ dir. page (listing dir (known s.names dir)) from) (λ dir. page_told s.names dir from h)
call_told s (call.Stat target) work h few =
    looked s work (target_at s target) (λ f. reply.Stat (stat_of s f)) (λ f. stat_told s f h)
call_told s (call.Rename from to) work h few = going s work (move_of s from to) _ (λ x w. record { spelled = tt; names = tt })
call_told s (call.Unlink path) work h few = going s work (file_at s path) _ (λ x w. record { spelled = tt; names = tt })
call_told s (call.Rmdir path) work h few = going s work (empty_dir_at s path) _ (λ x w. record { spelled = tt; names = tt })
call_told s (call.Forget id) work h few = going s work (lost_at s id) _ (λ x w. record { spelled = tt; names = tt })
call_told s (call.Demote target) work h few =
    going s work (demoted_at s target) _ (λ x w. record { spelled = tt; names = tt })
call_told s (call.Drop target) work h few =
    going s work (dropped_at s target) (λ f. leaving s f work (clean_gold s f)) (λ f. left s f work (clean_gold s f))
call_told s (call.Giveup view server) work h few =
    going s work (removal_at s view server) _ (λ x w. record { spelled = tt; names = tt })
call_told s call.Status work h few =
    looked s work (in_time s (tt {0})) (λ found. reply.Status (counts s)) (λ x w. record { spelled = tt; names = tt })
call_told s call.Stop work h few =
    looked s work (in_time s (tt {0})) (λ found. reply.Done) (λ x w. record { spelled = tt; names = tt })
