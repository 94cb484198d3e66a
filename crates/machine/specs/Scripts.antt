-- Scripts (document 01, "Scripts"): the steps that four bytes make, what one step does, and a run of at most so many steps.
-- A script is judged by the labels of its connection alone; nothing looks at its text beforehand.
use Rattle.std.specs.Prelude.{ℕ, zero, suc, ◌+◌, ◌*◌, ◌%◌, ◌^◌, Bool, ◌&&◌, List, [], ◌∷◌, ◌++◌, ltb, eqb, get_or, set, take, drop}
use Rattle.prelude.specs.Choice.{branch}
use Rattle.records.specs.declared.Record.{Record}
use Rattle.machine.specs.Policy.{host_keys, cookie_index, url_host, is_url, upgraded, is_connection, may_read, may_write, may_send}
use Rattle.machine.specs.Session.{script_count, script_kind, picture_kind, cookie_value, present, set_cookie, Effects, send}

-- ---- the script table (document 01's shelf): 16 scripts of 32 steps of 4 bytes

abbrev pub script_steps : ℕ
script_steps = 32

abbrev pub script_bytes : ℕ
script_bytes = 4 * script_steps

abbrev pub table_bytes : ℕ
table_bytes = script_count * script_bytes

-- the bytes of script number n
abbrev pub script_at : List ℕ → ℕ → List ℕ
script_at scripts n = take script_bytes (drop (script_bytes * n) scripts)

abbrev pub register_count : ℕ
register_count = 4

pub data Step : Type 0 where
  end : Step
  constant : (register value : ℕ) → Step
  add : (register left right : ℕ) → Step
  read_cookie : (register key : ℕ) → Step
  write_cookie : (key register : ℕ) → Step
  send_request : (url connection handler : ℕ) → Step
  skip_if_zero : (register count : ℕ) → Step
  send_picture : (url connection : ℕ) → Step

-- the step of four bytes; an unknown operation ends the script as 0 does
unfoldable pub step_of : ℕ → ℕ → ℕ → ℕ → Step
step_of op a b c =
    branch (eqb op 1) (constant a (256 * b + c))
    (branch (eqb op 2) (add a b c)
    (branch (eqb op 3) (read_cookie a b)
    (branch (eqb op 4) (write_cookie a b)
    (branch (eqb op 5) (send_request a b c)
    (branch (eqb op 6) (skip_if_zero a b)
    (branch (eqb op 7) (send_picture a b)
    end))))))

-- step i of a script's bytes
unfoldable pub step_at : List ℕ → ℕ → Step
step_at code i = step_of (get_or code (4 * i) 0) (get_or code (4 * i + 1) 0) (get_or code (4 * i + 2) 0) (get_or code (4 * i + 3) 0)

-- ---- one step

-- what a step leaves: the place of the next step, registers, requests sent, and the state
pub record Progress : Type 0 where
  pub place : ℕ
  pub registers : List ℕ
  pub sent : List Record
  pub state : List ℕ

abbrev pub register : List ℕ → ℕ → ℕ
register rs a = get_or rs a 0

abbrev pub is_register : ℕ → Bool
is_register a = ltb a register_count

abbrev pub is_key : ℕ → Bool
is_key k = ltb k host_keys

abbrev pub is_script : ℕ → Bool
is_script n = ltb n script_count

-- a script that ends changes nothing more: its place is past the last step
unfoldable pub ended : List ℕ → List ℕ → Progress
ended rs s = record { place = script_steps; registers = rs; sent = []; state = s }

-- it goes on at a place, with these registers and this state
unfoldable pub goes_on : ℕ → List ℕ → List ℕ → Progress
goes_on place rs s = record { place = place; registers = rs; sent = []; state = s }

-- it goes on after a request
unfoldable pub goes_on_after : ℕ → List ℕ → Effects → Progress
goes_on_after place rs e = record { place = place; registers = rs; sent = e.sent; state = e.state }

-- A request of URL u on connection m by a script of connection n, where the numbers name something and it is allowed. What is then pending on m has
-- this kind, origin and handler.
unfoldable pub requested : List ℕ → ℕ → ℕ → ℕ → ℕ → ℕ → ℕ → ℕ → List ℕ → List ℕ → Progress
requested p n kind origin handler u m i rs s =
    branch (is_url p u && (is_connection m && (is_script handler && may_send p n u m))) (goes_on_after (suc i) rs (send p m kind origin handler u s))
    (ended rs s)

-- A step at a place, of the script of a response on connection n, for a page. A field that is used and out of range ends the script,
-- and so does a read or a request that is not allowed. A write that is not allowed is passed over.
unfoldable pub step : List ℕ → ℕ → ℕ → Step → ℕ → List ℕ → List ℕ → Progress
step p n page end i rs s = ended rs s
step p n page (constant a v) i rs s =
    branch (is_register a) (goes_on (suc i) (set rs a v) s)
    (ended rs s)
step p n page (add a b c) i rs s =
    branch (is_register a && (is_register b && is_register c)) (goes_on (suc i) (set rs a ((register rs b + register rs c) % 2 ^ 32)) s)
    (ended rs s)
step p n page (read_cookie a k) i rs s =
    let c = cookie_index (url_host p page) k in
    branch (is_register a && (is_key k && (may_read p n c && present s (url_host p page) k))) (goes_on (suc i) (set rs a (cookie_value s c)) s)
    (ended rs s)
step p n page (write_cookie k b) i rs s =
    let c = cookie_index (url_host p page) k in
    branch (is_key k && is_register b)
    (branch (may_write p n c) (goes_on (suc i) rs (set_cookie (url_host p page) k (register rs b) s))
    (goes_on (suc i) rs s))
    (ended rs s)
step p n page (send_request u m handler) i rs s = requested p n script_kind page handler (upgraded p u) m i rs s
step p n page (skip_if_zero a b) i rs s =
    branch (is_register a)
    (branch (eqb (register rs a) 0) (goes_on (suc i + b) rs s)
    (goes_on (suc i) rs s))
    (ended rs s)
step p n page (send_picture u m) i rs s = requested p n picture_kind 0 0 (upgraded p u) m i rs s

-- ---- a run

-- a run that stops with nothing more done
unfoldable pub stopped : List ℕ → Effects
stopped s = record { steps = 0; sent = []; state = s }

-- a step and what follows it
unfoldable pub followed : Progress → Effects → Effects
followed done rest = record { steps = suc rest.steps; sent = done.sent ++ rest.sent; state = rest.state }

-- At most `fuel` steps from a place on. Each step met counts, the one that ends the script too; past the last place none is met.
unfoldable pub run_from : ℕ → (ℕ → Step) → List ℕ → ℕ → ℕ → ℕ → List ℕ → List ℕ → Effects
run_from zero code p n page i rs = stopped
run_from (suc fuel) code p n page i rs =
    branch (ltb i script_steps)
    (λ s. let done = step p n page (code i) i rs s in followed done (run_from fuel code p n page done.place done.registers done.state))
    stopped

-- the most steps that a script runs: none goes back, so as many as there are places
abbrev pub step_limit : ℕ
step_limit = script_steps

-- registers start at 0, but for register 0
abbrev pub starting_with : ℕ → List ℕ
starting_with v = v ∷ 0 ∷ 0 ∷ 0 ∷ []

-- Script x of the table runs for a page, with the labels of connection n, and register 0 is v.
unfoldable pub run_script : List ℕ → List ℕ → ℕ → ℕ → ℕ → ℕ → List ℕ → Effects
run_script p scripts n page x v s = run_from step_limit (step_at (script_at scripts x)) p n page 0 (starting_with v) s
