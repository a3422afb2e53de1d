use Rattle.std.proofs.Common.{refl, arith}
use Rattle.wire.proofs.Writing.{few_bytes, put_room}
use Rattle.writer.proofs.cursor.Cursor.number.Goals as goal

pub overflow_add-self : goal.overflow_add-self
overflow_add-self c = omega (arith, c.encoded_len.ensures, few_bytes c.args.n)

pub returns : goal.returns
returns c = record {
  answer = refl;
  place = λ _. omega (arith, c.encoded_len.ensures);
  output = λ _ room. (put_room c.put.ensures room).1;
  small = omega (arith, c.encoded_len.ensures, few_bytes c.args.n);
  same = refl;
}
