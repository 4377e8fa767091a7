-- Flags by server: a member is what the look-up of its server finds.
use Rattle.std.proofs.Common.{ℕ, ◌≡◌, ◌==◌, ◌&&◌, true, false, cond, List, ◌∷◌, [], Option, None, Some, Less, refl, sym, ap, ◌∙◌, inl, inr, arith}
use Rattle.std.specs.Ordering.{nat_cmp}
use Rattle.std.proofs.lemmas.Bool.{and_parts, eqb-true}
use Rattle.std.proofs.lemmas.Bool.Decides.{nat_tests}
use Rattle.law_frame.specs.pg_run.pg_content.Content.{Among}
use Rattle.law_frame.specs.pg_run.pg_register.declared.flag.Flag.{Flag}
use Rattle.law_frame.specs.pg_run.pg_register.Flag.{IsByServer, flag_of, is_raised, is_raised_with}
use Rattle.law_frame.proofs.pg_run.pg_register.ByServer.{Above, IsByServer-head, IsByServer-tail, below, first}
use Rattle.law_frame.proofs.pg_run.Found.{flag_found}

-- ---- what stands there is found

above_at : (s : ℕ) (fs : List Flag) (f : Flag) → Above s fs → Among f fs → nat_cmp s f.server ≡ Less
above_at s [] f up k = absurd k
above_at s (h ∷ fs) f up (inl same) = ap (λ (x : Flag). nat_cmp s x.server) same ∙ up.0
above_at s (h ∷ fs) f up (inr later) = above_at s fs f up.1 later

pub there_found : (fs : List Flag) (f : Flag) → IsByServer fs → Among f fs → flag_of fs f.server ≡ Some f
there_found [] f sorted k = absurd k
there_found (h ∷ fs) f sorted (inl same) = ap (λ (x : Flag). flag_of (h ∷ fs) x.server) same ∙ first h fs ∙ ap Some (sym same)
there_found (h ∷ fs) f sorted (inr later) =
    let up = below h.server f.server (above_at h.server fs f (IsByServer-head h fs sorted) later) in
    let other : (h.server == f.server) ≡ false = grind (arith, nat_tests) in
    ap (λ t. cond t (Some h) (flag_of fs f.server)) other ∙ there_found fs f (IsByServer-tail h fs sorted) later

-- ---- a raised flag

-- a flag of this server and birth that is raised
pub record IsRaisedOne (fs : List Flag) (server birth : ℕ) : Type 0 where
  pub flag : Flag
  pub among : Among flag fs
  pub server_is : flag.server ≡ server
  pub birth_is : flag.birth ≡ birth
  pub raised : flag.raised ≡ true

raised_by : (fs : List Flag) (server birth : ℕ) (o : Option Flag) → flag_of fs server ≡ o → is_raised_with o birth ≡ true → IsRaisedOne fs server birth
raised_by fs server birth None is h = absurd (let z : false ≡ true = h in cc)
raised_by fs server birth (Some f) is h =
    let k = flag_found fs server f is in
    let both = and_parts f.raised (f.birth == birth) h in
    record { flag = f; among = k.0; server_is = k.1; birth_is = eqb-true f.birth birth both.1; raised = both.0 }

pub raised_one : (fs : List Flag) (server birth : ℕ) → is_raised fs server birth ≡ true → IsRaisedOne fs server birth
raised_one fs server birth h = raised_by fs server birth (flag_of fs server) refl h

pub one_raised : (fs : List Flag) (f : Flag) → IsByServer fs → Among f fs → f.raised ≡ true → is_raised fs f.server f.birth ≡ true
one_raised fs f sorted among raised =
    let same : (f.birth == f.birth) ≡ true = grind (arith, nat_tests) in
    ap (λ o. is_raised_with o f.birth) (there_found fs f sorted among) ∙ ap (λ t. t && (f.birth == f.birth)) raised ∙ same
