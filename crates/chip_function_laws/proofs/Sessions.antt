-- The three commands that read send the streams of specs/Streams.antt.
use Prim.Native.Nat.{ℕ, zero, suc, ◌+◌, ◌-◌, ◌*◌, ◌/◌, ◌%◌, ◌<◌, ◌≤◌}
use mathlib.Core.Path.{◌≡◌, sym, subst}
use mathlib.Core.List.{List, [], ◌∷◌, ◌++◌}
use native.Mathlib.Omega.{arith}
use lib.Dec.{ltb}
use borrow.Author.Tests.{lt-ltb, le-ltb}
use Rattle.base_types.specs.Bits.{bits_of, bits_of_bytes}
use Rattle.base_types.specs.declared.address.DataAddress.{DataAddress}
use Rattle.base_types.specs.declared.address.StatusAddress.{StatusAddress}
use Rattle.base_types.specs.Scan.{values_from}
use Rattle.base_crc.specs.Crc.{crc_bytes, crc16_byte, crc16_from, crc16_of}
use Rattle.base_crc.specs.Polynomial.{crc16_polynomial}
use Rattle.base_crc.proofs.Runs.{bytes_after}
use Rattle.chip_memory.specs.Layout.{data_size, status_size}
use Rattle.chip_memory.specs.Image.{data_byte, status_byte, redirection_of}
use Rattle.chip_stage.specs.declared.stage.Outgoing.TheVariants.{MemoryData, MemoryCrc, StatusData, StatusCrc, RedirectionByte, RedirectionCrc, PageData, PageCrc}
use Rattle.chip_stage.specs.declared.stage.MemoryStage.TheVariants.{Silent}
use Rattle.chip_stage.specs.Limits.{limit_of, is_address}
use Rattle.chip_stage.specs.Stages.{sending_crc}
use Rattle.chip_stage.specs.Reads.{memory_from, status_from, redirection_from, page_from, start_memory, start_status, start_extended, after_memory, after_status, next_status, after_page, next_page}
use Rattle.chip_function.specs.Functions.{sent}
use Rattle.chip_function_laws.specs.Streams.{crc_of, header, memory_stream, status_pages, status_stream, page_stream, extended_pages, extended_stream}
use Rattle.chip_function_laws.specs.Reads.{Sends, none, StreamLaws}
use Rattle.chip_function_laws.proofs.Sending.{◌then◌, byte_out, crc_out, block}

abbrev data_at : ℕ → DataAddress
data_at a = record { 0 = a }

abbrev status_at : ℕ → StatusAddress
status_at a = record { 0 = a }

-- the CRC of bytes after others
crc_joined : (xs ys : List ℕ) → crc16_from (crc16_of xs) ys ≡ crc16_of (xs ++ ys)
crc_joined xs ys = sym (bytes_after crc16_polynomial 0 xs ys)

module _ (n : ℕ) (img : List ℕ) where
  -- ---- Read Memory

  memory_block : (k a crc : ℕ) → a + suc k ≡ data_size n
      → Sends n img (memory_from n (data_at a) crc img) (bits_of_bytes (values_from (data_byte n img) a (suc k)))
      (sending_crc MemoryCrc (crc16_from crc (values_from (data_byte n img) a (suc k))))
  unfolding memory_from sent after_memory
  memory_block k a crc e =
      block n img (λ x c. memory_from n (data_at x) c img) (data_byte n img) (λ x. ltb (x + 1) (data_size n)) (λ x c. sending_crc MemoryCrc c)
      (λ x c m. subst (λ s. Sends n img (memory_from n (data_at x) c img) (bits_of 8 (data_byte n img x)) s) (simp m) (byte_out n img (MemoryData (data_at x)) (data_byte n img x) c))
      (λ x c m. subst (λ s. Sends n img (memory_from n (data_at x) c img) (bits_of 8 (data_byte n img x)) s) (simp m) (byte_out n img (MemoryData (data_at x)) (data_byte n img x) c))
      k a crc (λ i lt. lt-ltb (a + i + 1) (data_size n) (omega arith)) (le-ltb (a + k + 1) (data_size n) (omega arith))

  pub memory_session : (a : ℕ) → a < data_size n → Sends n img (start_memory n a (crc16_of (header 0xF0 a)) img) (memory_stream n img a) Silent
  unfolding start_memory is_address limit_of sent
  memory_session a lt =
      let k : data_size n - a ≡ suc (data_size n - a - 1) = omega arith in
      simp (lt-ltb a (data_size n) lt)
      (rw (k, ← (crc_joined (header 0xF0 a) (values_from (data_byte n img) a (suc (data_size n - a - 1)))))
      (memory_block (data_size n - a - 1) a (crc16_of (header 0xF0 a)) (omega arith)
      then crc_out n img MemoryCrc (crc16_from (crc16_of (header 0xF0 a)) (values_from (data_byte n img) a (suc (data_size n - a - 1))))))

  -- ---- Read Status

  -- the rest of an 8-byte page, and its CRC
  status_block : (before : List ℕ) (a : ℕ)
      → Sends n img (status_from n (status_at a) (crc16_of before) img)
      (bits_of_bytes (values_from (status_byte n img) a (8 - a % 8)) ++ crc_of (before ++ values_from (status_byte n img) a (8 - a % 8)))
      (next_status n (status_at (a + (7 - a % 8))) img)
  unfolding sent after_status
  status_block before a =
      let k : 8 - a % 8 ≡ suc (7 - a % 8) = omega arith in
      let bytes = values_from (status_byte n img) a (suc (7 - a % 8)) in
      rw (k, ← (crc_joined before bytes))
      (block n img (λ x c. status_from n (status_at x) c img) (status_byte n img) (λ x. ltb (x % 8) 7) (λ x c. sending_crc (StatusCrc (status_at x)) c)
      (λ x c m. subst (λ s. Sends n img (status_from n (status_at x) c img) (bits_of 8 (status_byte n img x)) s) (simp m) (one x c))
      (λ x c m. subst (λ s. Sends n img (status_from n (status_at x) c img) (bits_of 8 (status_byte n img x)) s) (simp m) (one x c))
      (7 - a % 8) a (crc16_of before) (λ i lt. lt-ltb ((a + i) % 8) 7 (omega arith)) (le-ltb ((a + (7 - a % 8)) % 8) 7 (omega arith))
      then crc_out n img (StatusCrc (status_at (a + (7 - a % 8)))) (crc16_from (crc16_of before) bytes))
    where
      one : (x c : ℕ) → Sends n img (status_from n (status_at x) c img) (bits_of 8 (status_byte n img x)) (sent n (StatusData (status_at x)) (crc16_byte c (status_byte n img x)) img)
      one x c = unfold status_from in byte_out n img (StatusData (status_at x)) (status_byte n img x) c

  status_pages_lem : (k q : ℕ) → 8 * (q + 1 + k) ≡ status_size n → Sends n img (next_status n (status_at (8 * q + 7)) img) (status_pages n img (q + 1) k) Silent
  unfolding next_status status_pages crc_bytes
  status_pages_lem zero q e = simp (le-ltb (8 * q + 7 + 1) (status_size n) (omega arith)) none
  status_pages_lem (suc k) q e =
      let here : 8 * q + 7 + 1 ≡ 8 * (q + 1) = omega arith in
      let whole : 8 - 8 * (q + 1) % 8 ≡ 8 = omega arith in
      let last : 8 * (q + 1) + (7 - 8 * (q + 1) % 8) ≡ 8 * (q + 1) + 7 = omega arith in
      simp (lt-ltb (8 * q + 7 + 1) (status_size n) (omega arith))
      (rw here (simp (whole, last) at (status_block [] (8 * (q + 1))) then status_pages_lem k (q + 1) (omega arith)))

  pub status_session : (a : ℕ) → n % 8 ≡ 0 → a < status_size n → Sends n img (start_status n a (crc16_of (header 0xAA a)) img) (status_stream n img a) Silent
  unfolding start_status is_address limit_of
  status_session a m lt =
      let last : a + (7 - a % 8) ≡ 8 * (a / 8) + 7 = omega arith in
      simp (lt-ltb a (status_size n) lt)
      (rw last at (status_block (header 0xAA a) a) then status_pages_lem (status_size n / 8 - (a / 8 + 1)) (a / 8) (omega arith))

  -- ---- Extended Read

  -- the rest of a 32-byte page, and its CRC
  page_block : (a : ℕ)
      → Sends n img (page_from n (data_at a) 0 img)
      (bits_of_bytes (values_from (data_byte n img) a (32 - a % 32)) ++ crc_of (values_from (data_byte n img) a (32 - a % 32)))
      (next_page n (data_at (a + (31 - a % 32))) img)
  unfolding sent after_page
  page_block a =
      let k : 32 - a % 32 ≡ suc (31 - a % 32) = omega arith in
      let bytes = values_from (data_byte n img) a (suc (31 - a % 32)) in
      rw k
      (block n img (λ x c. page_from n (data_at x) c img) (data_byte n img) (λ x. ltb (x % 32) 31) (λ x c. sending_crc (PageCrc (data_at x)) c)
      (λ x c m. subst (λ s. Sends n img (page_from n (data_at x) c img) (bits_of 8 (data_byte n img x)) s) (simp m) (one x c))
      (λ x c m. subst (λ s. Sends n img (page_from n (data_at x) c img) (bits_of 8 (data_byte n img x)) s) (simp m) (one x c))
      (31 - a % 32) a 0 (λ i lt. lt-ltb ((a + i) % 32) 31 (omega arith)) (le-ltb ((a + (31 - a % 32)) % 32) 31 (omega arith))
      then crc_out n img (PageCrc (data_at (a + (31 - a % 32)))) (crc16_from 0 bytes))
    where
      one : (x c : ℕ) → Sends n img (page_from n (data_at x) c img) (bits_of 8 (data_byte n img x)) (sent n (PageData (data_at x)) (crc16_byte c (data_byte n img x)) img)
      one x c = unfold page_from in byte_out n img (PageData (data_at x)) (data_byte n img x) c

  -- a redirection byte, its CRC, and the rest of the page
  page_session : (before : List ℕ) (a : ℕ) → a / 32 < 256
      → Sends n img (redirection_from n (data_at a) (crc16_of before) img) (page_stream n img before (a / 32) a) (next_page n (data_at (a + (31 - a % 32))) img)
  unfolding redirection_from sent crc_bytes
  page_session before a lt =
      let p : a / 32 % 256 ≡ a / 32 = omega arith in
      let r : ℕ = redirection_of n img (a / 32) in
      rw (p, ← (crc_joined before (redirection_of n img (a / 32) ∷ [])))
      ((byte_out n img (RedirectionByte (data_at a)) (redirection_of n img (a / 32)) (crc16_of before)
      then crc_out n img (RedirectionCrc (data_at a)) (crc16_byte (crc16_of before) (redirection_of n img (a / 32))))
      then page_block a)

  extended_pages_lem : (k p : ℕ) → n ≤ 256 → p + 1 + k ≡ n → Sends n img (next_page n (data_at (32 * p + 31)) img) (extended_pages n img (p + 1) k) Silent
  unfolding next_page extended_pages crc_bytes
  extended_pages_lem zero p low e = simp (le-ltb (32 * p + 31 + 1) (data_size n) (omega arith)) none
  extended_pages_lem (suc k) p low e =
      let here : 32 * p + 31 + 1 ≡ 32 * (p + 1) = omega arith in
      let page : 32 * (p + 1) / 32 ≡ p + 1 = omega arith in
      let last : 32 * (p + 1) + (31 - 32 * (p + 1) % 32) ≡ 32 * (p + 1) + 31 = omega arith in
      simp (lt-ltb (32 * p + 31 + 1) (data_size n) (omega arith))
      (rw here (simp (page, last) at (page_session [] (32 * (p + 1)) (omega arith)) then extended_pages_lem k (p + 1) low (omega arith)))

  pub extended_session : (a : ℕ) → n ≤ 256 → a < data_size n → Sends n img (start_extended n a (crc16_of (header 0xA5 a)) img) (extended_stream n img a) Silent
  unfolding start_extended is_address limit_of
  extended_session a low lt =
      let last : a + (31 - a % 32) ≡ 32 * (a / 32) + 31 = omega arith in
      simp (lt-ltb a (data_size n) lt)
      (rw last at (page_session (header 0xA5 a) a (omega arith)) then extended_pages_lem (n - (a / 32 + 1)) (a / 32) low (omega arith))

pub read_laws : (n : ℕ) → n % 8 ≡ 0 → n ≤ 256 → StreamLaws n
read_laws n m low =
    record {
      memory = λ img a lt. memory_session n img a lt;
      status = λ img a lt. status_session n img a m lt;
      extended = λ img a lt. extended_session n img a low lt;
    }
