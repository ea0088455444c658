-- Where the chip sends a CRC, it fits the address as the master sent it exactly if the chip dropped no bit of that.
use Prim.Native.Nat.{ℕ, zero, suc, ◌+◌, ◌-◌, ◌*◌, ◌/◌, ◌%◌, ◌^◌, ◌<◌, ◌≤◌}
use mathlib.Core.Path.{◌≡◌, refl, sym, ap, ap₂, ◌∙◌}
use mathlib.Core.Bool.{Bool, true, false}
use mathlib.Core.List.{List, [], ◌∷◌, ◌++◌, map, append-nil, append_assoc, append_cancel_left, tail-eq_of_cons-eq}
use native.Mathlib.Decide.{dec_lt}
use native.Mathlib.Omega.{arith}
use lib.ListN.{length, length-append, length-replicate, take, drop}
use lib.Seq.{take_at, drop_at}
use borrow.Author.Tests.{lt-ltb}
use Rattle.base_types.proofs.Words.{bits_length, bytes_length}
use Rattle.base_types.specs.Outcome.{accepted}
use Rattle.base_types.specs.Bits.{bits_of, bits_of_bytes}
use Rattle.base_types.specs.declared.address.Space.{Space}
use Rattle.base_types.specs.declared.address.Space.TheVariants.{Data, Status}
use Rattle.base_types.specs.declared.write_mode.WriteMode.TheVariants.{Ordinary}
use Rattle.base_types.specs.WriteMode.{write_command}
use Rattle.base_types.specs.Scan.{values_from}
use Rattle.bus_events.specs.Slots.{slots, ones, reading, lines}
use Rattle.bus_events.specs.Events.{reset}
use Rattle.base_crc.specs.Polynomial.{crc16_polynomial}
use Rattle.base_crc.specs.Crc.{crc_bytes, crc_bits, crc16_of, crc16_word}
use Rattle.base_crc.proofs.Runs.{bytes_after, bytes_bits}
use Rattle.chip_memory.specs.Layout.{data_size}
use Rattle.chip_memory.specs.Image.{data_byte, status_byte, redirection_of}
use Rattle.chip_stage.specs.Limits.{limit_of, is_address, address_bits, kept_address}
use Rattle.chip_stage.proofs.Addresses.{limit_fits}
use Rattle.chip_function_laws.specs.Streams.{crc_of, header, memory_stream, status_stream, extended_pages, extended_stream}
use Rattle.chip_function_laws.proofs.Addresses.{address_laws}
use Rattle.chip_entries.specs.Run.{Chip, answers, line_of}
use Rattle.chip_session_laws.specs.Session.{Ready, Selection, then_ones}
use Rattle.chip_session_laws.specs.Laws.{Draws, starting_at, HeardWithCrc, WriteFits, NoticeLaws}
use Rattle.chip_session_laws.proofs.Slots.{lines_read}
use Rattle.chip_session_laws.proofs.Sessions.{read_sessions}
use Rattle.chip_session_laws.proofs.Writes.{byte_arms}

-- ---- lists

line_back : (bs : List Bool) → map line_of (map accepted bs) ≡ bs
line_back [] = refl
line_back (b ∷ bs) = ap (λ l. b ∷ l) (line_back bs)

-- replies that are told alike are alike
told_once : (xs ys : List Bool) → map accepted xs ≡ map accepted ys → xs ≡ ys
told_once xs ys e = sym (line_back xs) ∙ ap (map line_of) e ∙ line_back ys

-- the first bits of a longer stream
first_bits : (bits rest : List Bool) (k : ℕ) → length bits ≡ k → then_ones (bits ++ rest) k ≡ bits
unfolding then_ones
first_bits [] rest zero e = refl
first_bits [] rest (suc k) e = absurd (omega arith)
first_bits (b ∷ bits) rest zero e = absurd (omega arith)
first_bits (b ∷ bits) rest (suc k) e = ap (λ l. b ∷ l) (first_bits bits rest k (omega arith))

values_from_length : (byte : ℕ → ℕ) (k a : ℕ) → length (values_from byte a k) ≡ k
unfolding values_from
values_from_length byte zero a = refl
values_from_length byte (suc k) a = ap suc (values_from_length byte k (a + 1))

-- ---- the CRC

-- bytes with the same bits have the same CRC after the same header
crc_by_bits : (head first bytes : List ℕ) → bits_of_bytes first ≡ bits_of_bytes bytes → crc_of (head ++ first) ≡ crc_of (head ++ bytes)
crc_by_bits head first bytes e =
    ap (λ (r : ℕ). bits_of 16 (crc16_word r))
    (bytes_after crc16_polynomial 0 head first ∙ bytes_bits crc16_polynomial _ first
    ∙ ap (crc_bits crc16_polynomial (crc16_of head)) e
    ∙ sym (bytes_after crc16_polynomial 0 head bytes ∙ bytes_bits crc16_polynomial _ bytes))

module _ (n : ℕ) (low : n ≤ 256) where
  -- a CRC over the kept address that is that of the address as sent
  not_dropped : (command a : ℕ) (bytes : List ℕ) → a < 65536
      → crc_of (header command (kept_address n a) ++ bytes) ≡ crc_of (header command a ++ bytes) → a < 2 ^ address_bits n
  not_dropped command a bytes la e = go (dec_lt a (2 ^ address_bits n))
    where
      go : Dec (a < 2 ^ address_bits n) → a < 2 ^ address_bits n
      go (yes lt) = lt
      go (no ge) = absurd ((address_laws n low).differs command a bytes (omega arith) la e)

  -- what read slots meet of a stream that begins with bytes and the CRC of command, address k and these bytes
  block_heard : (c : Chip) (ms ls : List Bool) (command a k : ℕ) (first : List ℕ) (rest : List Bool) {stream : List Bool}
      → stream ≡ (bits_of_bytes first ++ crc_of (header command k ++ first)) ++ rest → Draws n c ms ls (header command a) stream
      → answers n c (reset ∷ slots (ms ++ (bits_of_bytes (header command a) ++ ones (8 * length first + 16))))
      ≡ map accepted (false ∷ (ls ++ (bits_of_bytes (header command a) ++ (bits_of_bytes first ++ crc_of (header command k ++ first)))))
  block_heard c ms ls command a k first rest {stream} begins draws =
      let m = 8 * length first + 16 in
      let x = bits_of_bytes first ++ crc_of (header command k ++ first) in
      let size : length (bits_of_bytes first ++ crc_of (header command k ++ first)) ≡ 8 * length first + 16 =
      length-append (bits_of_bytes first) (crc_of (header command k ++ first)) ∙ ap₂ ◌+◌ (bytes_length first) (bits_length 16 _) in
      let line : lines (ones m) (then_ones stream (length (ones m))) ≡ x =
      ap₂ (λ (s : List Bool) (l : ℕ). lines (ones m) (then_ones s l)) begins (length-replicate m _)
      ∙ ap (lines (ones m)) (first_bits x rest m size) ∙ lines_read m x size in
      draws (ones m) ∙ ap (λ (l : List Bool). map accepted (false ∷ (ls ++ (bits_of_bytes (header command a) ++ l)))) line

  noticed : (c : Chip) (ms ls : List Bool) (command a : ℕ) (first bytes : List ℕ) (rest : List Bool) {stream : List Bool} → a < 65536 → length first ≡ length bytes
      → stream ≡ (bits_of_bytes first ++ crc_of (header command (kept_address n a) ++ first)) ++ rest → Draws n c ms ls (header command a) stream
      → HeardWithCrc n c ms ls command a bytes → a < 2 ^ address_bits n
  noticed c ms ls command a first bytes rest la same begins draws fits =
      let k = kept_address n a in
      let x = bits_of_bytes first ++ crc_of (header command k ++ first) in
      let y = bits_of_bytes bytes ++ crc_of (header command a ++ bytes) in
      let sent = bits_of_bytes (header command a) in
      let heard : false ∷ (ls ++ (sent ++ x)) ≡ false ∷ (ls ++ (sent ++ y)) =
      told_once _ _
      (sym (block_heard c ms ls command a k first rest begins draws)
      ∙ ap (λ (l : ℕ). answers n c (reset ∷ slots (ms ++ (sent ++ ones (8 * l + 16))))) same ∙ fits) in
      let block : x ≡ y = append_cancel_left sent x y (append_cancel_left ls _ _ (tail-eq_of_cons-eq heard)) in
      let m = 8 * length bytes in
      let front : length (bits_of_bytes first) ≡ 8 * length bytes = bytes_length first ∙ ap (λ (l : ℕ). 8 * l) same in
      let bits : bits_of_bytes first ≡ bits_of_bytes bytes =
      sym (take_at (bits_of_bytes first) _ m front) ∙ ap (take m) block ∙ take_at (bits_of_bytes bytes) _ m (bytes_length bytes) in
      let crcs : crc_of (header command k ++ first) ≡ crc_of (header command a ++ bytes) =
      sym (drop_at (bits_of_bytes first) _ m front) ∙ ap (drop m) block ∙ drop_at (bits_of_bytes bytes) _ m (bytes_length bytes) in
      not_dropped command a bytes la (sym (crc_by_bits (header command k) first bytes bits) ∙ crcs)

  -- ---- the streams, each with the bytes before its first CRC

  memory_begins : (img : List ℕ) (k : ℕ)
      → let first = values_from (data_byte n img) k (data_size n - k) in
      memory_stream n img k ≡ (bits_of_bytes first ++ crc_of (header 0xF0 k ++ first)) ++ []
  memory_begins img k = sym (append-nil _)

  -- the rest of the page, and the later pages
  abbrev after_redirection : List ℕ → ℕ → List Bool
  after_redirection img k =
      let page = values_from (data_byte n img) k (32 - k % 32) in
      (bits_of_bytes page ++ crc_of page) ++ extended_pages n img (k / 32 + 1) (n - (k / 32 + 1))

  extended_begins : (img : List ℕ) (k : ℕ)
      → let first = redirection_of n img (k / 32) ∷ [] in
      extended_stream n img k ≡ (bits_of_bytes first ++ crc_of (header 0xA5 k ++ first)) ++ after_redirection img k
  unfolding bits_of_bytes
  extended_begins img k = simp (append-nil, append_assoc)

  module _ (whole : n % 8 ≡ 0) where
    in_memory : (space : Space) (a : ℕ) → a < limit_of n space → is_address n space a ≡ true
    unfolding is_address
    in_memory space a lt = lt-ltb a (limit_of n space) lt

    -- what is drawn from an address of the memory: as kept, and where it is one as sent
    from_kept : (c : Chip) (ms ls : List Bool) (space : Space) (command a : ℕ) (stream : ℕ → List Bool) → kept_address n a < limit_of n space
        → Draws n c ms ls (header command a) (starting_at n space a stream) → Draws n c ms ls (header command a) (stream (kept_address n a))
    from_kept c ms ls space command a stream lt d = rw (in_memory space (kept_address n a) lt) at d

    from_own : (c : Chip) (ms ls : List Bool) (space : Space) (command a : ℕ) (stream : ℕ → List Bool) → a < limit_of n space
        → Draws n c ms ls (header command a) (starting_at n space a stream) → Draws n c ms ls (header command a) (stream a)
    from_own c ms ls space command a stream lt d = rw ((address_laws n low).own space a lt, in_memory space a lt) at d

    write_heard : (c : Chip) {ms ls : List Bool} (space : Space) (a byte : ℕ) → Ready n c → Selection c.state.number ms ls → a < 65536
        → kept_address n a < limit_of n space → byte < 256
        → let sent = bits_of_bytes (header (write_command Ordinary space) a) in
        answers n c (reset ∷ (slots (ms ++ sent) ++ (slots (bits_of 8 byte) ++ reading 16)))
        ≡ map accepted (false ∷ ((ls ++ sent) ++ (bits_of 8 byte ++ crc_of (header (write_command Ordinary space) (kept_address n a) ++ (byte ∷ [])))))
    unfolding crc_bytes
    write_heard c space a byte ok sel la lt small = (byte_arms n whole c Ordinary space a byte ok sel la lt small).told

    write_noticed : (c : Chip) {ms ls : List Bool} (space : Space) (a byte : ℕ) → Ready n c → Selection c.state.number ms ls → a < 65536
        → kept_address n a < limit_of n space → byte < 256 → WriteFits n c ms ls space a byte → a < 2 ^ address_bits n
    write_noticed c {ms} {ls} space a byte ok sel la lt small fits =
        let heard = tail-eq_of_cons-eq (told_once _ _ (sym (write_heard c space a byte ok sel la lt small) ∙ fits)) in
        not_dropped (write_command Ordinary space) a (byte ∷ []) la
        (append_cancel_left (bits_of 8 byte) _ _ (append_cancel_left (ls ++ bits_of_bytes (header (write_command Ordinary space) a)) _ _ heard))

    write_fits : (c : Chip) {ms ls : List Bool} (space : Space) (a byte : ℕ) → Ready n c → Selection c.state.number ms ls → a < limit_of n space → byte < 256
        → WriteFits n c ms ls space a byte
    write_fits c space a byte ok sel lt small =
        let own = (address_laws n low).own space a lt in
        rw own at (write_heard c space a byte ok sel (omega (arith, limit_fits n space low)) (rw own lt) small)

    pub notice_laws : NoticeLaws n
    unfolding limit_of
    notice_laws =
        let reads = read_sessions n whole low in
        record {
          memory = λ c {ms} {ls} a bytes ok sel la lt size fits.
              let k = kept_address n a in
              noticed c ms ls 0xF0 a _ bytes [] la (values_from_length (data_byte n c.image) (data_size n - k) k ∙ sym size) (memory_begins c.image k)
              (from_kept c ms ls Data 0xF0 a (memory_stream n c.image) lt (reads.memory c a ok sel la)) fits;
          status = λ c {ms} {ls} a bytes ok sel la lt size fits.
              let k = kept_address n a in
              noticed c ms ls 0xAA a _ bytes _ la (values_from_length (status_byte n c.image) (8 - k % 8) k ∙ sym size) refl
              (from_kept c ms ls Status 0xAA a (status_stream n c.image) lt (reads.status c a ok sel la)) fits;
          extended = λ c {ms} {ls} a byte ok sel la lt fits.
              noticed c ms ls 0xA5 a _ (byte ∷ []) _ la refl (extended_begins c.image (kept_address n a))
              (from_kept c ms ls Data 0xA5 a (extended_stream n c.image) lt (reads.extended c a ok sel la)) fits;
          write = write_noticed;
          memory_fits = λ c {ms} {ls} a ok sel lt.
              block_heard c ms ls 0xF0 a a _ [] (memory_begins c.image a)
              (from_own c ms ls Data 0xF0 a (memory_stream n c.image) lt (reads.memory c a ok sel (omega arith)));
          status_fits = λ c {ms} {ls} a ok sel lt.
              block_heard c ms ls 0xAA a a (values_from (status_byte n c.image) a (8 - a % 8)) _ refl
              (from_own c ms ls Status 0xAA a (status_stream n c.image) lt (reads.status c a ok sel (omega arith)));
          extended_fits = λ c {ms} {ls} a ok sel lt.
              block_heard c ms ls 0xA5 a a (redirection_of n c.image (a / 32) ∷ []) _ (extended_begins c.image a)
              (from_own c ms ls Data 0xA5 a (extended_stream n c.image) lt (reads.extended c a ok sel (omega arith)));
          write_fits = write_fits;
        }
