-- A finished transaction's writes go over the table; any other is resumed.
use Rattle.std.proofs.Common.{sym, ◌∙◌, ◌-◌}
use borrow.Rule.Slice.PartMut.{put_same}
use Rattle.speculative_turn.specs.Advance.{some-body, idle_sound, idle}
use Rattle.speculative_turn.specs.AreaRow.{area_row, beside_in}
use Rattle.speculative_turn.proofs.advance.Goals as goal

pub is_finished-requires : goal.is_finished-requires
is_finished-requires c = (c.requires.ready.readable, some-body c.requires.ready)

pub overlay_writes-requires-clause-row_value : goal.overlay_writes-requires-clause-row_value
overlay_writes-requires-clause-row_value c = idle_sound c.requires.ready (sym c.is_finished.ensures ∙ c.if-is_finished.true)

-- the row stays, and with it the area
pub returns-then-is_finished : goal.returns-then-is_finished
returns-then-is_finished c =
    let a = c.args in
    let done = sym c.is_finished.ensures ∙ c.if-is_finished.true in
    record {
      new_row = area_row a.records.now a.row a.next;
      leaves = idle c.requires.ready done c.overlay_writes.new.table (c.overlay_writes.ensures.table (beside_in a.records.now a.objects a.table.now));
      back = sym (put_same a.row (a.next - a.row) a.records.now);
    }
