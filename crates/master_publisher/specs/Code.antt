-- What only mirrors private code: nobody has to believe it. What an update does on the bus is master_call_laws' script.
pub mod Turn
