-- By the tests: room for the whole field, its tag, its length.
use mathlib.Core.Path.{sym}
use native.Mathlib.Omega.{arith}
use Rattle.fields.proofs.Bytes.{field_cut, field-other, field_is}
use Rattle.fields.proofs.reading.field_here.Goals as goal

pub returns-then-bytes-at : goal.returns-then-bytes-at
returns-then-bytes-at c = let a = c.args in
    sym (field_cut a.tag a.size a.at a.bytes.now (omega arith))

pub returns-then-left-lt-HEAD_SIZE : goal.returns-then-left-lt-HEAD_SIZE
returns-then-left-lt-HEAD_SIZE c = let a = c.args in
    sym (field_cut a.tag a.size a.at a.bytes.now (omega arith))

pub returns-then-left-size : goal.returns-then-left-size
returns-then-left-size c = let a = c.args in
    sym (field_cut a.tag a.size a.at a.bytes.now (omega arith))

pub returns-then-bytes-at-2 : goal.returns-then-bytes-at-2
returns-then-bytes-at-2 c = let a = c.args in
    rw c.u16_at.ensures (field_is a.tag a.size a.at a.bytes.now (omega arith) c.if-bytes-at-2.true)

pub returns : goal.returns
returns c = let a = c.args in
    sym (field-other a.tag a.size a.at a.bytes.now (omega arith) c.if-bytes-at-2.false)
