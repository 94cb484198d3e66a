-- All definitions opened at once, for theorems that are proved by computing.
use Rattle.prelude.specs.Choice.{branch, keep}
use Rattle.prelude.specs.Refusals.{first_of}
use Rattle.labels.specs.Membership.{all_below, any_below, find_below, subset, is_lowest_missing, lowest_missing, missing_one, share}
use Rattle.labels.specs.Sets.{holds, empty, all, only}
use Rattle.records.specs.Bytes.{number, digits}
use Rattle.records.specs.Layout.{widths, start, size, longest, join, split, fit_widths, values, from_values}
use Rattle.records.specs.Codec.{is_one_of, no_key_set, keys_of, map_unknown, keys_zero, length_other, read_refusal, fields_of, decoded, carriable, bytes_of, write_refusal, encoded, first_record, read_at_most, read_run, write_run}
use Rattle.machine.specs.Policy.{is_entry, url_address, empty_row, is_url, row_well_formed, connection_well_formed, is_replaced, is_partner, partner_well_formed, well_formed, upgraded, fits, may_store, may_carry, may_read, may_write, reach_missing_writer, may_send, first_missing, fit_missing_reader, fit_missing_writer, redirect_missing_reader, redirect_missing_writer}
use Rattle.machine.specs.Session.{has, map_below, packed, kind_of, origin_of, handler_of, url_of, cookie_sound, host_sound, kind_sound, plain_request, url_sound, connection_sound, sound, set_cookie, store_cookie, store_cookies, attaches, set_connection, request_map, request, send}
use Rattle.machine.specs.Scripts.{step_of, step_at, ended, goes_on, goes_on_after, requested, step, stopped, followed, run_from, run_script}
use Rattle.machine.specs.Machine.{cookies_of, arrived_of, event_of, named, pending, awaited, missing_reader, missing_writer, verdict, receive, perform, outcome, feed}

unfoldable pub machine : Unit {0}
unfolding all_below any_below find_below subset is_lowest_missing lowest_missing missing_one share holds empty all only
    number digits widths start size longest join split fit_widths values from_values
    is_one_of no_key_set keys_of map_unknown keys_zero length_other read_refusal fields_of decoded carriable bytes_of write_refusal encoded first_record read_at_most read_run write_run
    branch keep first_of
    is_entry url_address empty_row is_url row_well_formed connection_well_formed is_replaced is_partner partner_well_formed well_formed upgraded fits may_store may_carry may_read may_write reach_missing_writer may_send first_missing fit_missing_reader fit_missing_writer redirect_missing_reader redirect_missing_writer
    has map_below packed kind_of origin_of handler_of url_of cookie_sound host_sound kind_sound plain_request url_sound connection_sound sound set_cookie store_cookie store_cookies attaches set_connection request_map request send
    step_of step_at ended goes_on goes_on_after requested step stopped followed run_from run_script
    cookies_of arrived_of event_of named pending awaited missing_reader missing_writer verdict receive perform outcome feed
machine = tt
