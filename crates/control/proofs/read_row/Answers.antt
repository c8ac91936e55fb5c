-- Each row of the table: its marks, then its payload. Assumes nothing.
use mathlib.Core.Path.{refl}
use Rattle.control.specs.Table.{row_of}
use Rattle.control.proofs.Reading.{row_read}
use Rattle.control.proofs.read_row.Goals as goal

pub returns-in-1 : goal.returns-in-1
returns-in-1 c = rw c.in-1.is (row_read (row_of 1) c.args.q.now c.args.mode c.args.access refl c.factory_reset.ensures c.by_mark-in-1.ensures)

pub returns-in-2 : goal.returns-in-2
returns-in-2 c = rw c.in-2.is (row_read (row_of 2) c.args.q.now c.args.mode c.args.access refl c.get_state.ensures c.by_mark-in-2.ensures)

pub returns-in-3 : goal.returns-in-3
returns-in-3 c = rw c.in-3.is (row_read (row_of 3) c.args.q.now c.args.mode c.args.access refl c.set_state.ensures c.by_mark-in-3.ensures)

pub returns-in-4 : goal.returns-in-4
returns-in-4 c = rw c.in-4.is (row_read (row_of 4) c.args.q.now c.args.mode c.args.access refl c.none.ensures c.by_mark-in-4.ensures)

pub returns-in-5 : goal.returns-in-5
returns-in-5 c = rw c.in-5.is (row_read (row_of 5) c.args.q.now c.args.mode c.args.access refl c.none-in-5.ensures c.by_mark-in-5.ensures)

pub returns-in-6 : goal.returns-in-6
returns-in-6 c = rw c.in-6.is (row_read (row_of 6) c.args.q.now c.args.mode c.args.access refl c.ibeacon_config.ensures c.by_mark-in-6.ensures)

pub returns-in-10 : goal.returns-in-10
returns-in-10 c = rw c.in-10.is (row_read (row_of 10) c.args.q.now c.args.mode c.args.access refl c.none-in-10.ensures c.by_mark-in-10.ensures)

pub returns-in-11 : goal.returns-in-11
returns-in-11 c = rw c.in-11.is (row_read (row_of 11) c.args.q.now c.args.mode c.args.access refl c.none-in-11.ensures c.by_mark-in-11.ensures)

pub returns-in-12 : goal.returns-in-12
returns-in-12 c = rw c.in-12.is (row_read (row_of 12) c.args.q.now c.args.mode c.args.access refl c.none-in-12.ensures c.by_mark-in-12.ensures)

pub returns-in-13 : goal.returns-in-13
returns-in-13 c = rw c.in-13.is (row_read (row_of 13) c.args.q.now c.args.mode c.args.access refl c.none-in-13.ensures c.by_mark-in-13.ensures)

pub returns-in-20 : goal.returns-in-20
returns-in-20 c = rw c.in-20.is (row_read (row_of 20) c.args.q.now c.args.mode c.args.access refl c.switch.ensures c.by_mark-in-20.ensures)

pub returns-in-21 : goal.returns-in-21
returns-in-21 c = rw c.in-21.is (row_read (row_of 21) c.args.q.now c.args.mode c.args.access refl c.multi_switch.ensures c.by_mark-in-21.ensures)

pub returns-in-71 : goal.returns-in-71
returns-in-71 c = rw c.in-71.is (row_read (row_of 71) c.args.q.now c.args.mode c.args.access refl c.tracked_device_heartbeat.ensures c.by_mark-in-71.ensures)

pub returns-in-72 : goal.returns-in-72
returns-in-72 c = rw c.in-72.is (row_read (row_of 72) c.args.q.now c.args.mode c.args.access refl c.none-in-72.ensures c.by_mark-in-72.ensures)

pub returns-in-80 : goal.returns-in-80
returns-in-80 c = rw c.in-80.is (row_read (row_of 80) c.args.q.now c.args.mode c.args.access refl c.none-in-80.ensures c.by_mark-in-80.ensures)
