-- The records of a transfer buffer.
use Rattle.std.specs.Prelude.{List}
use Rattle.codec.specs.Records.{Record}
use Rattle.provider.specs.Buffers.{records_held}
use Rattle.provider.specs.declared.transfer_buffer.TransferBuffer.{TransferBuffer}

abbrev pub buffer_records : TransferBuffer → List Record
buffer_records b = records_held b.octets b.used
